-- What a writer's buffer holds after some bytes were put: those bytes, and behind them what was there. Assumes nothing.
use Rattle.std.proofs.Common.{◌≡◌, ℕ, ◌+◌, ◌-◌, ◌≤◌, true, List, [], ◌++◌, length, take, drop, fold, sym, refl, ap, ◌∙◌, subst, ap₂, append_assoc, arith}
use borrow.Author.Tests.{true-leb, le-true}
use lib.Seq.{drop-append-add}
use Rattle.std.proofs.lemmas.List.{take_at, drop-drop, length-append, length-drop, length-take-le, take-append-drop}
use Rattle.crc.specs.Check.{register, byte_taken, high_byte_first, sealed}
use Rattle.std.proofs.lemmas.List.Sums.{fold-append}
use Rattle.frame.specs.declared.writer.Writer.{Writer}
use Rattle.frame.specs.Writing.{Put, overlaid}

-- Bytes laid right behind a front.
laid-behind : (buffer front bytes : List ℕ)
    → overlaid (front ++ drop (length front) buffer) (length front) bytes ≡ (front ++ bytes) ++ drop (length (front ++ bytes)) buffer
unfolding overlaid
laid-behind buffer front bytes =
    let n : ℕ = length front in
    ap₂ (λ (p q : List ℕ). p ++ (bytes ++ q)) (take_at front (drop n buffer) n refl)
    (drop-append-add front (drop n buffer) (length bytes) ∙ drop-drop (length bytes) n buffer
    ∙ ap (λ (k : ℕ). drop k buffer) (sym (length-append front bytes)))
    ∙ sym (append_assoc front bytes (drop (length (front ++ bytes)) buffer))

-- What was laid one behind the other is laid at once.
laid-laid : (buffer : List ℕ) (place : ℕ) (some more : List ℕ) → place + length some ≤ length buffer
    → overlaid (overlaid buffer place some) (place + length some) more ≡ overlaid buffer place (some ++ more)
unfolding overlaid
laid-laid buffer place some more h =
    let front : List ℕ = take place buffer ++ some in
    let start : length (take place buffer) ≡ place = length-take-le place buffer (omega arith) in
    let size : length front ≡ place + length some = length-append (take place buffer) some ∙ ap (λ (n : ℕ). n + length some) start in
    let ends : length (front ++ more) ≡ place + length (some ++ more) =
    length-append front more ∙ ap (λ (n : ℕ). n + length more) size ∙ omega (arith, length-append some more) in
    ap₂ (λ (b : List ℕ) (n : ℕ). overlaid b n more) (sym (append_assoc (take place buffer) some (drop (place + length some) buffer))
    ∙ ap (λ (n : ℕ). front ++ drop n buffer) (sym size)) (sym size)
    ∙ laid-behind buffer front more ∙ ap (λ (n : ℕ). (front ++ more) ++ drop n buffer) ends
    ∙ ap (λ (xs : List ℕ). xs ++ drop (place + length (some ++ more)) buffer) (append_assoc (take place buffer) some more)
    ∙ append_assoc (take place buffer) (some ++ more) (drop (place + length (some ++ more)) buffer)

length-laid : (buffer : List ℕ) (place : ℕ) (bytes : List ℕ) → place + length bytes ≤ length buffer → length (overlaid buffer place bytes) ≡ length buffer
unfolding overlaid
length-laid buffer place bytes h =
    simp (length-append, length-drop) (omega (arith, length-take-le place buffer (omega arith)))

-- A writer's buffer stays as long as it is.
pub put_room : (w v : Writer) (bytes : List ℕ) → Put bytes w v true → length v.buffer.now ≡ length w.buffer.now
put_room w v bytes p =
    ap length p.buffer ∙ length-laid w.buffer.now w.filled bytes (true-leb (w.filled + length bytes) (length w.buffer.now) p.fits)

-- No bytes are always put.
pub put_none : (w : Writer) → w.filled ≤ length w.buffer.now → Put [] w w true
unfolding overlaid
put_none w h =
    record {
      fits = le-true (w.filled + 0) (length w.buffer.now) (omega arith);
      filled = omega arith;
      register = refl;
      buffer = sym (take-append-drop w.filled w.buffer.now)
          ∙ ap (λ (n : ℕ). take w.filled w.buffer.now ++ drop n w.buffer.now) (omega arith);
      lender = refl;
    }

-- Bytes that were put one behind the other were put at once.
pub put_more : (w v u : Writer) (some more : List ℕ) → Put some w v true → Put more v u true → Put (some ++ more) w u true
put_more w v u some more p q =
    let first : w.filled + length some ≤ length w.buffer.now = true-leb (w.filled + length some) (length w.buffer.now) p.fits in
    let second : v.filled + length more ≤ length v.buffer.now = true-leb (v.filled + length more) (length v.buffer.now) q.fits in
    let room : length v.buffer.now ≡ length w.buffer.now = put_room w v some p in
    let both : length (some ++ more) ≡ length some + length more = length-append some more in
    let after : v.filled ≡ w.filled + length some = p.filled in
    record {
      fits = le-true (w.filled + length (some ++ more)) (length w.buffer.now) (omega arith);
      filled = q.filled ∙ omega arith;
      register = q.register ∙ ap (λ (x : ℕ). fold byte_taken x more) p.register ∙ sym (fold-append byte_taken w.register some more);
      buffer = q.buffer ∙ ap₂ (λ (b : List ℕ) (n : ℕ). overlaid b n more) p.buffer after
          ∙ laid-laid w.buffer.now w.filled some more first;
      lender = q.lender ∙ p.lender;
    }

-- The writer has put `front` into a buffer that was `buffer`.
pub record Holds (w : Writer) (buffer front : List ℕ) : Type 0 where
  pub bytes : w.buffer.now ≡ front ++ drop (length front) buffer
  pub count : w.filled ≡ length front
  pub over : w.register ≡ register front

pub holds_more : (w v : Writer) (buffer front more : List ℕ) → Holds w buffer front → Put more w v true → Holds v buffer (front ++ more)
holds_more w v buffer front more h p =
    record {
      bytes = p.buffer ∙ ap₂ (λ (b : List ℕ) (k : ℕ). overlaid b k more) h.bytes h.count ∙ laid-behind buffer front more;
      count = p.filled ∙ ap (λ (k : ℕ). k + length more) h.count ∙ sym (length-append front more);
      over = p.register ∙ ap (λ (x : ℕ). fold byte_taken x more) h.over ∙ sym (fold-append byte_taken 0xffff front more);
    }

pub holds-sealed : (w v : Writer) (buffer front : List ℕ) → Holds w buffer front → Put (high_byte_first (0xffff - w.register)) w v true
    → Holds v buffer (sealed front)
unfolding sealed
holds-sealed w v buffer front h p =
    subst (Holds v buffer) (ap (λ (x : ℕ). front ++ high_byte_first (0xffff - x)) h.over) (holds_more w v buffer front (high_byte_first (0xffff - w.register)) h p)
