-- How the register moves: the exclusive or of two registers moves as the two do, so a whole byte can meet the register
-- at once, and a message's own check value drives it to one fixed value.
-- Assumes nothing.
use Rattle.std.proofs.Common.{◌≡◌, ℕ, zero, suc, ◌+◌, ◌-◌, ◌*◌, ◌/◌, ◌%◌, ◌^◌, ◌<◌, ◌≤◌, ltb, List, [], ◌∷◌, ◌++◌, fold, sym, refl, ap, ◌∙◌, subst, ap₂, ⊎_elim, mul_assoc, mul_comm, add-mul, mul-lt-mul_of_pos_right, pow-suc, div-add-mod', arith, pow_pos}
use lib.Bits.{bit_xor, differ, xor_block, xor_shifted, xor_lt, xor_assoc, xor_comm, xor_zero_r, xor_step}
use Rattle.std.proofs.lemmas.List.Sums.{fold-append}
use Rattle.std.proofs.lemmas.Bool.{lt-ltb, le-ltb, cond-true, cond-false, cases_lt}
use Rattle.crc.specs.Check.{moved_up, bit_taken, bits, byte_taken, high_byte_first}

xor_double : (a b : ℕ) → bit_xor a b * 2 ≡ bit_xor (a * 2) (b * 2)
xor_double a b =
    let e : bit_xor (a * 2 + 0) (b * 2 + 0) ≡ bit_xor a b * 2 + bit_xor 0 0 = xor_block 1 a b 0 0 (omega arith) (omega arith) in
    let p : a * 2 + 0 ≡ a * 2 = omega arith in
    let q : b * 2 + 0 ≡ b * 2 = omega arith in
    let s : bit_xor a b * 2 + bit_xor 0 0 ≡ bit_xor a b * 2 = omega arith in
    sym s ∙ sym e ∙ ap₂ bit_xor p q

pub moved_low : (r : ℕ) → r < 0x8000 → moved_up r ≡ r * 2
unfolding moved_up
moved_low r h = cond-true (ltb r 0x8000) _ _ (lt-ltb r 0x8000 h)

pub moved_high : (r : ℕ) → 0x8000 ≤ r → moved_up r ≡ bit_xor ((r - 0x8000) * 2) 0x1021
unfolding moved_up
moved_high r h =
    cond-false (ltb r 0x8000) _ _ (le-ltb r 0x8000 h)
    ∙ ap (λ (x : ℕ). bit_xor x 0x1021) (let e : r * 2 - 0x10000 ≡ (r - 0x8000) * 2 = omega arith in e)

moved_top : (q : ℕ) → moved_up (0x8000 + q) ≡ bit_xor (q * 2) 0x1021
moved_top q =
    moved_high (0x8000 + q) (omega arith)
    ∙ ap (λ (x : ℕ). bit_xor (x * 2) 0x1021) (let e : 0x8000 + q - 0x8000 ≡ q = omega arith in e)

top_xor : (q s : ℕ) → q < 0x8000 → s < 0x8000 → bit_xor (0x8000 + q) s ≡ 0x8000 + bit_xor q s
top_xor q s hq hs =
    let e : bit_xor (1 * 0x8000 + q) (0 * 0x8000 + s) ≡ bit_xor 1 0 * 0x8000 + bit_xor q s = xor_block 15 1 0 q s hq hs in
    let t : 0 * 0x8000 + s ≡ s = omega arith in
    ap (λ (x : ℕ). bit_xor (0x8000 + q) x) (sym t) ∙ e

-- A part below the top moves by itself.
moved-xor_low : (r s : ℕ) → r < 0x8000 → s < 0x8000 → moved_up (bit_xor r s) ≡ bit_xor (moved_up r) (s * 2)
moved-xor_low r s hr hs =
    moved_low (bit_xor r s) (xor_lt 15 r s hr hs) ∙ xor_double r s ∙ ap (λ (x : ℕ). bit_xor x (s * 2)) (sym (moved_low r hr))

moved-xor_high : (q s : ℕ) → q < 0x8000 → s < 0x8000 → moved_up (bit_xor (0x8000 + q) s) ≡ bit_xor (moved_up (0x8000 + q)) (s * 2)
moved-xor_high q s hq hs =
    ap moved_up (top_xor q s hq hs) ∙ moved_top (bit_xor q s) ∙ ap (λ (x : ℕ). bit_xor x 0x1021) (xor_double q s)
    ∙ xor_assoc (q * 2) (s * 2) 0x1021 ∙ ap (bit_xor (q * 2)) (xor_comm (s * 2) 0x1021)
    ∙ sym (xor_assoc (q * 2) 0x1021 (s * 2)) ∙ ap (λ (x : ℕ). bit_xor x (s * 2)) (sym (moved_top q))

moved-xor : (r s : ℕ) → r < 0x10000 → s < 0x8000 → moved_up (bit_xor r s) ≡ bit_xor (moved_up r) (s * 2)
moved-xor r s hr hs =
    ⊎_elim (λ h. moved-xor_low r s h hs)
    (λ h.
    let e : 0x8000 + (r - 0x8000) ≡ r = omega arith in
    subst (λ (x : ℕ). moved_up (bit_xor x s) ≡ bit_xor (moved_up x) (s * 2)) e (moved-xor_high (r - 0x8000) s (omega arith) hs))
    (cases_lt r 0x8000)

pub moved-fits : (r : ℕ) → r < 0x10000 → moved_up r < 0x10000
moved-fits r hr =
    ⊎_elim (λ h. subst (λ (x : ℕ). x < 0x10000) (sym (moved_low r h)) (omega arith))
    (λ h. subst (λ (x : ℕ). x < 0x10000) (sym (moved_high r h)) (xor_lt 16 ((r - 0x8000) * 2) 0x1021 (omega arith) (omega arith)))
    (cases_lt r 0x8000)

-- The register some places further up.
abbrev pub times : ℕ → ℕ → ℕ
times zero r = r
times (suc k) r = moved_up (times k r)

times-fits : (k r : ℕ) → r < 0x10000 → times k r < 0x10000
times-fits zero r h = h
times-fits (suc k) r h = moved-fits (times k r) (times-fits k r h)

-- A part that stays below the top moves by itself, some places.
times-xor : (k r s : ℕ) → r < 0x10000 → s * 2 ^ k < 0x10000 → times k (bit_xor r s) ≡ bit_xor (times k r) (s * 2 ^ k)
times-xor zero r s hr hs = ap (bit_xor r) (let e : s ≡ s * 1 = omega arith in e)
times-xor (suc k) r s hr hs =
    let p : 2 ^ suc k ≡ 2 ^ k * 2 = pow-suc 2 k in
    let d : s * 2 ^ suc k ≡ s * 2 ^ k * 2 = ap (λ (x : ℕ). s * x) p ∙ sym (mul_assoc s (2 ^ k) 2) in
    let h : s * 2 ^ k < 0x8000 = omega arith in
    ap moved_up (times-xor k r s hr (omega arith)) ∙ moved-xor (times k r) (s * 2 ^ k) (times-fits k r hr) h ∙ ap (bit_xor (moved_up (times k r))) (sym d)

-- One more bit, the lowest of y, where the register has met the bits above it: then it has met y, i places up.
met_more : (i j r y : ℕ) → r < 0x10000 → y * 2 ^ i < 0x10000 → y % 2 * 2 ^ i * 2 ^ j ≡ y % 2 * 0x8000
    → bit_taken (times j (bit_xor r (y / 2 * 2 ^ suc i))) (y % 2) ≡ times (suc j) (bit_xor r (y * 2 ^ i))
unfolding bit_taken
met_more i j r y hr hy e =
    let p : 2 ^ suc i ≡ 2 ^ i * 2 = pow-suc 2 i in
    let low : y % 2 * 2 ^ i < 2 * 2 ^ i = mul-lt-mul_of_pos_right (omega arith) (pow_pos i) in
    let whole : y / 2 * 2 ^ suc i + y % 2 * 2 ^ i ≡ y * 2 ^ i =
    ap (λ (x : ℕ). y / 2 * x + y % 2 * 2 ^ i) (p ∙ mul_comm (2 ^ i) 2) ∙ ap (λ (x : ℕ). x + y % 2 * 2 ^ i) (sym (mul_assoc (y / 2) 2 (2 ^ i)))
    ∙ sym (add-mul (y / 2 * 2) (y % 2) (2 ^ i)) ∙ ap (λ (x : ℕ). x * 2 ^ i) (div-add-mod' y 2) in
    let high : bit_xor r (y / 2 * 2 ^ suc i) < 0x10000 = xor_lt 16 r (y / 2 * 2 ^ suc i) hr (omega arith) in
    ap moved_up
    (ap (bit_xor (times j (bit_xor r (y / 2 * 2 ^ suc i)))) (sym e)
    ∙ sym (times-xor j (bit_xor r (y / 2 * 2 ^ suc i)) (y % 2 * 2 ^ i) high (omega arith))
    ∙ ap (times j)
    (xor_assoc r (y / 2 * 2 ^ suc i) (y % 2 * 2 ^ i)
    ∙ ap (bit_xor r) (xor_shifted (y / 2) (suc i) (y % 2 * 2 ^ i) (omega arith) ∙ whole)))

next : (i j r y z q : ℕ) → r < 0x10000 → y * 2 ^ i < 0x10000 → y % 2 * 2 ^ i * 2 ^ j ≡ y % 2 * 0x8000
    → z ≡ y / 2 → q ≡ times j (bit_xor r (z * 2 ^ suc i)) → bit_taken q (y % 2) ≡ times (suc j) (bit_xor r (y * 2 ^ i))
next i j r y z q hr hy e half known =
    ap (λ (x : ℕ). bit_taken x (y % 2)) (known ∙ ap (λ (x : ℕ). times j (bit_xor r (x * 2 ^ suc i))) half)
    ∙ met_more i j r y hr hy e

-- A byte meets the top of the register at once.
pub byte-met : (r x : ℕ) → r < 0x10000 → x < 256 → byte_taken r x ≡ times 8 (bit_xor r (x * 256))
unfolding byte_taken bits
byte-met r x hr hx =
    let a : r ≡ times 0 (bit_xor r (0 * 0x10000)) = sym (xor_zero_r r) in
    let b = next 15 0 r (x / 128) 0 _ hr (omega arith) (omega arith) (omega arith) a in
    let c = next 14 1 r (x / 64) (x / 128) _ hr (omega arith) (omega arith) (omega arith) b in
    let d = next 13 2 r (x / 32) (x / 64) _ hr (omega arith) (omega arith) (omega arith) c in
    let e = next 12 3 r (x / 16) (x / 32) _ hr (omega arith) (omega arith) (omega arith) d in
    let f = next 11 4 r (x / 8) (x / 16) _ hr (omega arith) (omega arith) (omega arith) e in
    let g = next 10 5 r (x / 4) (x / 8) _ hr (omega arith) (omega arith) (omega arith) f in
    let h = next 9 6 r (x / 2) (x / 4) _ hr (omega arith) (omega arith) (omega arith) g in
    next 8 7 r x (x / 2) _ hr (omega arith) (omega arith) refl h

-- The register after a byte, from its two bytes.
pub byte_taken_lem : (h l x : ℕ) → h < 256 → l < 256 → x < 256
    → byte_taken (h * 256 + l) x ≡ bit_xor (l * 256) (byte_taken 0 (bit_xor h x))
byte_taken_lem h l x hh hl hx =
    let y : ℕ = bit_xor h x in
    let hy : y < 256 = xor_lt 8 h x hh hx in
    let parts : bit_xor (h * 256 + l) (x * 256 + 0) ≡ y * 256 + bit_xor l 0 = xor_block 8 h x l 0 hl (omega arith) in
    let z : x * 256 + 0 ≡ x * 256 = omega arith in
    byte-met (h * 256 + l) x (omega arith) hx
    ∙ ap (times 8)
    (ap (bit_xor (h * 256 + l)) (sym z) ∙ parts ∙ ap (λ (q : ℕ). y * 256 + q) (xor_zero_r l) ∙ sym (xor_shifted y 8 l hl))
    ∙ times-xor 8 (y * 256) l (omega arith) (omega arith) ∙ xor_comm (times 8 (y * 256)) (l * 256)
    ∙ ap (bit_xor (l * 256)) (sym (byte-met 0 y (omega arith) hy))

bit-fits : (r b : ℕ) → r < 0x10000 → b < 2 → bit_taken r b < 0x10000
unfolding bit_taken
bit-fits r b hr hb = moved-fits (bit_xor r (b * 0x8000)) (xor_lt 16 r (b * 0x8000) hr (omega arith))

-- Whatever is taken for a byte, its bits are bits.
byte_taken-fits : (r x : ℕ) → r < 0x10000 → byte_taken r x < 0x10000
unfolding byte_taken bits
byte_taken-fits r x hr =
    let a = bit-fits r (x / 128 % 2) hr (omega arith) in
    let b = bit-fits _ (x / 64 % 2) a (omega arith) in
    let c = bit-fits _ (x / 32 % 2) b (omega arith) in
    let d = bit-fits _ (x / 16 % 2) c (omega arith) in
    let e = bit-fits _ (x / 8 % 2) d (omega arith) in
    let f = bit-fits _ (x / 4 % 2) e (omega arith) in
    let g = bit-fits _ (x / 2 % 2) f (omega arith) in
    bit-fits _ (x % 2) g (omega arith)

differs : (b : ℕ) → b < 2 → differ b (1 - b) ≡ 1
differs zero h = refl
differs (suc zero) h = refl
differs (suc (suc b)) h = absurd (let e : ⊥ = omega arith in e)

-- A number and its complement are ones together.
complement : (k r : ℕ) → r < 2 ^ k → bit_xor r (2 ^ k - 1 - r) ≡ 2 ^ k - 1
complement zero r h =
    let e : r ≡ 0 = omega arith in
    subst (λ (q : ℕ). bit_xor q (0 - q) ≡ 0) (sym e) refl
complement (suc k) r h =
    let p : 2 ^ suc k ≡ 2 ^ k * 2 = pow-suc 2 k in
    let half : (2 ^ suc k - 1 - r) / 2 ≡ 2 ^ k - 1 - r / 2 = omega arith in
    let last : (2 ^ suc k - 1 - r) % 2 ≡ 1 - r % 2 = omega arith in
    let rest : bit_xor (r / 2) (2 ^ k - 1 - r / 2) ≡ 2 ^ k - 1 = complement k (r / 2) (omega arith) in
    xor_step r (2 ^ suc k - 1 - r) ∙ ap₂ (λ (x y : ℕ). x * 2 + y) (ap (bit_xor (r / 2)) half ∙ rest) (ap (differ (r % 2)) last ∙ differs (r % 2) (omega arith))
    ∙ (let e : (2 ^ k - 1) * 2 + 1 ≡ 2 ^ suc k - 1 = omega (arith, pow_pos k) in e)

pub folded_fits : (r : ℕ) (message : List ℕ) → r < 0x10000 → fold byte_taken r message < 0x10000
folded_fits r [] h = h
folded_fits r (x ∷ xs) h = folded_fits (byte_taken r x) xs (byte_taken-fits r x h)

-- Two bytes meet the register at once.
two-met : (r h l : ℕ) → r < 0x10000 → h < 256 → l < 256
    → byte_taken (byte_taken r h) l ≡ times 8 (times 8 (bit_xor r (h * 256 + l)))
two-met r h l hr hh hl =
    let m : ℕ = bit_xor r (h * 256) in
    let hm : m < 0x10000 = xor_lt 16 r (h * 256) hr (omega arith) in
    byte-met (byte_taken r h) l (byte_taken-fits r h hr) hl
    ∙ ap (λ (q : ℕ). times 8 (bit_xor q (l * 256))) (byte-met r h hr hh)
    ∙ ap (times 8)
    (sym (times-xor 8 m l hm (omega arith)) ∙ ap (times 8) (xor_assoc r (h * 256) l ∙ ap (bit_xor r) (xor_shifted h 8 l hl)))

-- Two parts at the top bring the polynomial in twice, which is not at all.
moved-sum_high : (q p : ℕ) → q < 0x8000 → p < 0x8000
    → moved_up (bit_xor (0x8000 + q) (0x8000 + p)) ≡ bit_xor (moved_up (0x8000 + q)) (moved_up (0x8000 + p))
moved-sum_high q p hq hp =
    let e : bit_xor (1 * 0x8000 + q) (1 * 0x8000 + p) ≡ bit_xor 1 1 * 0x8000 + bit_xor q p = xor_block 15 1 1 q p hq hp in
    let once : bit_xor 0x1021 (bit_xor (p * 2) 0x1021) ≡ p * 2 =
    ap (bit_xor 0x1021) (xor_comm (p * 2) 0x1021) ∙ sym (xor_assoc 0x1021 0x1021 (p * 2)) in
    let none : bit_xor 1 1 * 0x8000 + bit_xor q p ≡ bit_xor q p = omega arith in
    ap moved_up (e ∙ none) ∙ moved_low (bit_xor q p) (xor_lt 15 q p hq hp) ∙ xor_double q p
    ∙ sym
    (ap₂ bit_xor (moved_top q) (moved_top p) ∙ xor_assoc (q * 2) 0x1021 (bit_xor (p * 2) 0x1021) ∙ ap (bit_xor (q * 2)) once)

-- Any two registers move each by itself.
moved-sum : (r s : ℕ) → r < 0x10000 → s < 0x10000 → moved_up (bit_xor r s) ≡ bit_xor (moved_up r) (moved_up s)
moved-sum r s hr hs =
    ⊎_elim (λ h. moved-xor r s hr h ∙ ap (bit_xor (moved_up r)) (sym (moved_low s h)))
    (λ hi.
    ⊎_elim
    (λ h.
    ap moved_up (xor_comm r s) ∙ moved-xor s r hs h ∙ xor_comm (moved_up s) (r * 2)
    ∙ ap (λ (x : ℕ). bit_xor x (moved_up s)) (sym (moved_low r h)))
    (λ h.
    let e : 0x8000 + (r - 0x8000) ≡ r = omega arith in
    let f : 0x8000 + (s - 0x8000) ≡ s = omega arith in
    ap moved_up (sym (ap₂ bit_xor e f)) ∙ moved-sum_high (r - 0x8000) (s - 0x8000) (omega arith) (omega arith)
    ∙ ap₂ (λ (x y : ℕ). bit_xor (moved_up x) (moved_up y)) e f)
    (cases_lt r 0x8000))
    (cases_lt s 0x8000)

times-sum : (k r s : ℕ) → r < 0x10000 → s < 0x10000 → times k (bit_xor r s) ≡ bit_xor (times k r) (times k s)
times-sum zero r s hr hs = refl
times-sum (suc k) r s hr hs =
    ap moved_up (times-sum k r s hr hs) ∙ moved-sum (times k r) (times k s) (times-fits k r hr) (times-fits k s hs)

-- The register after two bytes, from its two bytes: each meets one of them, and moves by itself from there.
pub two_taken_lem : (h l x y : ℕ) → h < 256 → l < 256 → x < 256 → y < 256
    → byte_taken (byte_taken (h * 256 + l) x) y ≡ bit_xor (byte_taken (byte_taken 0 (bit_xor h x)) 0) (byte_taken 0 (bit_xor l y))
two_taken_lem h l x y hh hl hx hy =
    let a : ℕ = bit_xor h x in
    let b : ℕ = bit_xor l y in
    let ha : a < 256 = xor_lt 8 h x hh hx in
    let hb : b < 256 = xor_lt 8 l y hl hy in
    let z : a * 256 + 0 ≡ a * 256 = omega arith in
    two-met (h * 256 + l) x y (omega arith) hx hy
    ∙ ap (λ (q : ℕ). times 8 (times 8 q)) (xor_block 8 h x l y hl hy ∙ sym (xor_shifted a 8 b hb))
    ∙ ap (times 8) (times-xor 8 (a * 256) b (omega arith) (omega arith))
    ∙ times-sum 8 (times 8 (a * 256)) (b * 256) (times-fits 8 (a * 256) (omega arith)) (omega arith)
    ∙ sym
    (ap₂ bit_xor (two-met 0 a 0 (omega arith) ha (omega arith) ∙ ap (λ (q : ℕ). times 8 (times 8 q)) z) (byte-met 0 b (omega arith) hb))

residue_from : (r : ℕ) → r < 0x10000 → byte_taken (byte_taken r ((0xffff - r) / 256 % 256)) ((0xffff - r) % 256) ≡ 0x1d0f
unfolding moved_up
residue_from r hr =
    let e : (0xffff - r) / 256 % 256 * 256 + (0xffff - r) % 256 ≡ 0xffff - r = omega arith in
    two-met r ((0xffff - r) / 256 % 256) ((0xffff - r) % 256) hr (omega arith) (omega arith)
    ∙ ap (λ (q : ℕ). times 8 (times 8 (bit_xor r q))) e
    ∙ ap (λ (q : ℕ). times 8 (times 8 q)) (complement 16 r hr)

-- A message, and the register that it leaves, inverted, lead to one fixed value.
pub residue : (r : ℕ) (message : List ℕ) → r < 0x10000 → fold byte_taken r (message ++ high_byte_first (0xffff - fold byte_taken r message)) ≡ 0x1d0f
residue r message h =
    fold-append byte_taken r message (high_byte_first (0xffff - fold byte_taken r message))
    ∙ residue_from (fold byte_taken r message) (folded_fits r message h)
