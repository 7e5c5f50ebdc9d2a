-- Bytes printed one behind the other. Assumes nothing.
use Rattle.std.proofs.Common.{◌≡◌, ℕ, ◌+◌, ◌<◌, true, false, cond, nat_lt, List, [], ◌++◌, length, refl, ap, ◌∙◌, subst, append_assoc, append-nil, sym, arith, Some, None, Option, Ok, Err, Result, ltb-true, ltb-false, le-ltb, lt-ltb}
use Rattle.std.proofs.lemmas.List.{length-append}
use Rattle.protocol.specs.declared.refusal.Refusal.{Refusal}
use Rattle.protocol.specs.Refusals.{number_of}
use Rattle.sheet.specs.Papers.{Printed}

-- What is answered where there is some room for so many bytes.
abbrev answer_by : ℕ → ℕ → Option ℕ
answer_by room n = cond (nat_lt room n) (Some 5) None

err_full : (room n : ℕ) (r : Refusal) → Some (number_of r) ≡ answer_by room n → room < n
err_full room n r e =
    elim (nat_lt room n) as (λ b. nat_lt room n ≡ b → room < n) [
      | true ↦ λ t. ltb-true room n t
      | false ↦ λ f. let x : Some (number_of r) ≡ None = e ∙ ap (λ b. cond b (Some 5) None) f in cc
    ] refl

answer_full : (room n : ℕ) → room < n → Some 5 ≡ answer_by room n
answer_full room n h = sym (ap (λ b. cond b (Some 5) None) (lt-ltb room n h))

-- As much room less as there are fewer bytes.
answer_behind : (room left n k : ℕ) → left + k ≡ room → answer_by left n ≡ answer_by room (k + n)
answer_behind room left n k e =
    elim (nat_lt left n) as (λ b. nat_lt left n ≡ b → answer_by left n ≡ answer_by room (k + n)) [
      | true ↦ λ t. ap (λ b. cond b (Some 5) None) (t ∙ sym (lt-ltb room (k + n) (omega (arith, ltb-true left n t))))
      | false ↦ λ f. ap (λ b. cond b (Some 5) None) (f ∙ sym (le-ltb room (k + n) (omega (arith, ltb-false left n f))))
    ] refl

-- From one paper on, some bytes are printed so far that once the rest is printed, the whole is.
pub record Leads {P : Type 0} (room : P → ℕ) (Shows : P → P → List ℕ → Type 0) (whole rest : List ℕ) (start now : P) : Type 0 where
  pub on : (later : P) (result : Result (Unit {0}) Refusal) → Printed room Shows rest now later result → Printed room Shows whole start later result

module _ {P : Type 0} (room : P → ℕ) (Shows : P → P → List ℕ → Type 0) where
  printed_more : (a b : List ℕ) (p q s : P) (r : Result (Unit {0}) Refusal) → Printed room Shows a p q (Ok tt)
      → Printed room Shows b q s r → Printed room Shows (a ++ b) p s r
  printed_more a b p q s r x y =
      let left : room q + length a ≡ room p = x.left refl in
      record {
        answer = y.answer ∙ answer_behind (room p) (room q) (length b) (length a) left ∙ ap (answer_by (room p)) (sym (length-append a b));
        left = λ ok. omega (arith, y.left ok, length-append a b);
        shows = λ ok start text h. subst (Shows start s) (append_assoc text a b) (y.shows ok start (text ++ a) (x.shows refl start text h));
      }

  printed_full : (a b : List ℕ) (p q : P) (e : Refusal) → Printed room Shows a p q (Err e) → Printed room Shows (a ++ b) p q (Err e)
  printed_full a b p q e x =
      let full : room p < length a = err_full (room p) (length a) e x.answer in
      let more : room p < length (a ++ b) = omega (arith, length-append a b) in
      record {
        answer = x.answer ∙ sym (answer_full (room p) (length a) full) ∙ answer_full (room p) (length (a ++ b)) more;
        left = λ ok. cc;
        shows = λ ok. cc;
      }

  -- Nothing is always printed.
  printed_none : (p : P) → Printed room Shows [] p p (Ok tt)
  printed_none p =
      record {
        answer = sym (ap (λ b. cond b (Some 5) None) (le-ltb (room p) 0 (omega arith)));
        left = λ ok. omega arith;
        shows = λ ok start text h. subst (Shows start p) (sym (append-nil text)) h;
      }

  -- Once the first part of the rest is printed, there is less.
  pub leads_more : (whole some a rest : List ℕ) (p q s : P) → some ≡ a ++ rest → Leads room Shows whole some p q
      → Printed room Shows a q s (Ok tt) → Leads room Shows whole rest p s
  leads_more whole some a rest p q s e l x =
      record { on = λ t r h. l.on t r (subst (λ bytes. Printed room Shows bytes q t r) (sym e) (printed_more a rest q s t r x h)) }

  -- Where the first part of the rest is refused, so is the whole.
  pub leads_full : (whole some a rest : List ℕ) (p q s : P) (e : Refusal) → some ≡ a ++ rest → Leads room Shows whole some p q
      → Printed room Shows a q s (Err e) → Printed room Shows whole p s (Err e)
  leads_full whole some a rest p q s r e l x =
      l.on s (Err r) (subst (λ bytes. Printed room Shows bytes q s (Err r)) (sym e) (printed_full a rest q s r x))

  -- Where nothing is left, all is printed.
  pub leads_end : (whole rest : List ℕ) (p q : P) → rest ≡ [] → Leads room Shows whole rest p q → Printed room Shows whole p q (Ok tt)
  leads_end whole rest p q e l = l.on q (Ok tt) (subst (λ bytes. Printed room Shows bytes q q (Ok tt)) (sym e) (printed_none q))
