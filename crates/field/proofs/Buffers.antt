-- A reply buffer: set to 00, and a reply laid over its front. Assumes nothing.
use Rattle.std.proofs.Common.{◌≡◌, ℕ, ◌-◌, ◌≤◌, min, Bool, true, false, cond, List, [], ◌++◌, length, take, drop, replicate, Some, None, Option, sym, refl, ap, ap₂, ◌∙◌, arith, le-ltb, lit≤, ⊎_elim, length-drop}
use Rattle.std.proofs.lemmas.List.{append_assoc, length-append, length-replicate, length-take-le, drop-append-le, drop-replicate, drop_all}
use Rattle.std.proofs.lemmas.Slice.{drop-append-drop}
use Rattle.std.proofs.lemmas.Bool.{cases_lt}
use borrow.Author.Tests.{ltb-false}
use Rattle.frame.specs.Makings.{buffer_after, writing}
use Rattle.field.specs.Sends.{is_short, padded, cleared}

pub padded_none : (n : ℕ) → padded n [] ≡ replicate n 0
unfolding padded
padded_none n = ap (λ (k : ℕ). replicate k 0) (omega arith)

-- A buffer that a send takes, cleared: nothing is heard.
pub cleared_long : (b : List ℕ) → 258 ≤ length b → cleared b ≡ padded 258 [] ++ drop 258 b
cleared_long b room =
    let all : min (length b) 258 ≡ 258 = omega arith in
    ap (λ (n : ℕ). replicate n 0 ++ drop 258 b) all ∙ sym (ap (λ (xs : List ℕ). xs ++ drop 258 b) (padded_none 258))

-- A reply over the front of a buffer that is cleared.
pub delivered : (n : ℕ) (reply b x y : List ℕ) → length reply ≤ n → n ≤ length b → x ≡ padded n [] ++ drop n b
    → y ≡ buffer_after (writing reply (length x)) x → y ≡ padded n reply ++ drop n b
unfolding padded
delivered n reply b x y fits room e f =
    let z : x ≡ replicate n 0 ++ drop n b = e ∙ ap (λ (k : ℕ). replicate k 0 ++ drop n b) (omega arith) in
    let long : length reply ≤ length x = omega (arith, ap length z, length-append (replicate n 0) (drop n b), length-replicate {A = ℕ} n 0) in
    let inside : length reply ≤ length (replicate n 0) = omega (arith, length-replicate {A = ℕ} n 0) in
    f ∙ rw (le-ltb (length x) (length reply) long) refl
    ∙ ap (λ (r : List ℕ). reply ++ drop (length reply) r) z
    ∙ ap (λ (r : List ℕ). reply ++ r) (drop-append-le (length reply) (replicate n 0) (drop n b) inside ∙ ap (λ (r : List ℕ). r ++ drop n b) (drop-replicate (length reply) n 0))
    ∙ sym (append_assoc reply (replicate (n - length reply) 0) (drop n b))

-- A reply written into a buffer that was cleared.
pub written_cleared : (reply b : List ℕ) → length reply ≤ 258 → 258 ≤ length b
    → buffer_after (writing reply (length (cleared b))) (cleared b) ≡ padded 258 reply ++ drop 258 b
written_cleared reply b fits room = delivered 258 reply b (cleared b) _ fits room (cleared_long b room) refl

-- A send that is heard had room for every reply.
pub room_of : (room : ℕ) → ◌≡◌ {A = Option ℕ} None (cond (is_short room) (Some 5) None) → 258 ≤ room
room_of room e = go (is_short room) refl e
  where
    go : (b : Bool) → is_short room ≡ b → ◌≡◌ {A = Option ℕ} None (cond b (Some 5) None) → 258 ≤ room
    go true d h = cc
    go false d h = ltb-false room 258 d

-- A buffer after a send that was heard: it is as long as before, so behind what was heard nothing has changed.
pub drop_left : (front b x : List ℕ) → 258 ≤ length b → length x ≡ length b → x ≡ front ++ drop 258 b → drop 258 x ≡ drop 258 b
drop_left front b x room keeps e =
    let long : length front ≡ 258 = omega (arith, room, keeps, ap length e, length-append front (drop 258 b), length-drop 258 b) in
    ap (drop 258) e ∙ drop-append-drop 258 b front 258 (lit≤ tt) long

-- It may then be cleared.
pub cleared_left : (front b x : List ℕ) → 258 ≤ length b → length x ≡ length b → x ≡ front ++ drop 258 b → cleared x ≡ padded 258 [] ++ drop 258 b
cleared_left front b x room keeps e =
    cleared_long x (omega (arith, room, keeps)) ∙ ap (λ (xs : List ℕ). padded 258 [] ++ xs) (drop_left front b x room keeps e)

-- The same, as an equation.
pub cleared_again : (reply b : List ℕ) → 258 ≤ length b → length (padded 258 reply ++ drop 258 b) ≡ length b
    → cleared (padded 258 reply ++ drop 258 b) ≡ padded 258 [] ++ drop 258 b
cleared_again reply b room keeps = cleared_left (padded 258 reply) b (padded 258 reply ++ drop 258 b) room keeps refl

behind : (b : List ℕ) (n : ℕ) → n ≡ min (length b) 258 → drop n b ≡ drop 258 b
behind b n e =
    ⊎_elim (λ short. drop_all n b (omega (arith, e)) ∙ sym (drop_all 258 b (omega arith)))
    (λ long. let same : n ≡ 258 = omega (arith, e) in ap (λ (k : ℕ). drop k b) same) (cases_lt (length b) 258)

-- What clearing leaves: 00 in front, and what was behind.
pub cleared_front : (b x : List ℕ) (n : ℕ) → n ≡ min (length b) 258 → x ≡ replicate (length (take n b)) 0 → x ++ drop n b ≡ cleared b
cleared_front b x n e f =
    let inside : n ≤ length b = omega (arith, e) in
    let size : length (take n b) ≡ min (length b) 258 = length-take-le n b inside ∙ e in
    ap₂ (λ (y z : List ℕ). y ++ z) (f ∙ ap (λ (k : ℕ). replicate k 0) size) (behind b n e)
