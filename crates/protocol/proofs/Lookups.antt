-- Laws of the commands: looking a code up, and how long a frame can be. Assumes nothing.
use Rattle.std.proofs.Common.{◌≡◌, ℕ, ◌≤◌, Bool, true, false, cond, eqb, ◌==◌, List, [], ◌∷◌, map, Some, None, Option, sym, refl, ap, ◌∙◌, arith, lit≤}
use Rattle.std.specs.Option.{option_map, ok_or}
use Rattle.std.proofs.lemmas.Bool.{eqb-true}
use Rattle.protocol.specs.declared.command.Command.{Command}
use Rattle.protocol.specs.declared.command.Command.TheVariants.{Select, UnselectNe, UnselectIdFlag, UnselectNoidFlag, Query, Scroll, Repeat, Reset, Read, Verify, Lock, Qlock, ReadFlexible, Write}
use Rattle.protocol.specs.declared.command.Entry.{Entry}
use Rattle.protocol.specs.declared.refusal.Refusal.TheVariants.{Code}
use Rattle.protocol.specs.Entries.{EntryOrRefusal}
use Rattle.protocol.specs.Commands.{code_of, length_of, commands, command_with_code, entry_of, first_with_code, first_entry}

-- A table that says of each command what is so is looked through as the commands are.
pub told : (code : ℕ) (cs : List Command) → first_entry code (map entry_of cs) ≡ option_map entry_of (first_with_code code cs)
told code [] = refl
told code (c ∷ cs) = either (code_of c == code) (told code cs)
  where
    either : (b : Bool) → first_entry code (map entry_of cs) ≡ option_map entry_of (first_with_code code cs)
        → cond b (Some (entry_of c)) (first_entry code (map entry_of cs)) ≡ option_map entry_of (cond b (Some c) (first_with_code code cs))
    either true e = refl
    either false e = e

none_mapped : (o : Option Command) → None ≡ option_map entry_of o → o ≡ None
none_mapped None e = refl
none_mapped (Some c) e = cc

some_mapped : (o : Option Command) (e : Entry) → Some e ≡ option_map entry_of o → (o ≡ Some e.command) × (e ≡ entry_of e.command)
some_mapped None e p = absurd (let z : ◌≡◌ {A = ℕ} 0 1 = cc in omega arith)
some_mapped (Some c) e p =
    let q : e ≡ entry_of c = cc in
    let r : e.command ≡ c = ap (λ (x : Entry). x.command) q in
    (ap Some (sym r), q ∙ ap entry_of (sym r))

-- What a look-up in the table tells of the command.
pub found_none : (code : ℕ) → None ≡ first_entry code (map entry_of commands) → command_with_code code ≡ None
unfolding command_with_code
found_none code e = none_mapped (command_with_code code) (e ∙ told code commands)

pub found_some : (code : ℕ) (e : Entry) → Some e ≡ first_entry code (map entry_of commands) → (command_with_code code ≡ Some e.command) × (e ≡ entry_of e.command)
unfolding command_with_code
found_some code e p = some_mapped (command_with_code code) e (p ∙ told code commands)

pub entered : (code : ℕ) (o : Option Entry) → o ≡ first_entry code (map entry_of commands) → EntryOrRefusal code (ok_or o Code)
entered code None p = (refl, found_none code p)
entered code (Some e) p = found_some code e p

first_code : (code : ℕ) (c d : Command) (ds : List Command) → (first_with_code code ds ≡ Some c → code_of c ≡ code) → (b : Bool) → eqb (code_of d) code ≡ b
    → cond b (Some d) (first_with_code code ds) ≡ Some c → code_of c ≡ code
first_code code c d ds later true t q = let same : d ≡ c = cc in ap code_of (sym same) ∙ eqb-true (code_of d) code t
first_code code c d ds later false t q = later q

first_named_code : (code : ℕ) (c : Command) (cs : List Command) → first_with_code code cs ≡ Some c → code_of c ≡ code
first_named_code code c [] e = absurd (let z : ◌≡◌ {A = ℕ} 0 1 = cc in omega arith)
first_named_code code c (d ∷ ds) e = first_code code c d ds (first_named_code code c ds) (eqb (code_of d) code) refl e

-- A command that a code names has that code.
pub named_code : (code : ℕ) (c : Command) → command_with_code code ≡ Some c → code_of c ≡ code
unfolding command_with_code
named_code code c e = first_named_code code c commands e

-- A command is named by its code.
pub named_self : (c : Command) → command_with_code (code_of c) ≡ Some c
unfolding command_with_code
named_self Select = refl
named_self UnselectNe = refl
named_self UnselectIdFlag = refl
named_self UnselectNoidFlag = refl
named_self Query = refl
named_self Scroll = refl
named_self Repeat = refl
named_self Reset = refl
named_self Read = refl
named_self Verify = refl
named_self Lock = refl
named_self Qlock = refl
named_self ReadFlexible = refl
named_self Write = refl

-- No frame is longer than WRITE's.
pub longest : (c : Command) → length_of c ≤ 17
longest Select = lit≤ tt
longest UnselectNe = lit≤ tt
longest UnselectIdFlag = lit≤ tt
longest UnselectNoidFlag = lit≤ tt
longest Query = lit≤ tt
longest Scroll = lit≤ tt
longest Repeat = lit≤ tt
longest Reset = lit≤ tt
longest Read = lit≤ tt
longest Verify = lit≤ tt
longest Lock = lit≤ tt
longest Qlock = lit≤ tt
longest ReadFlexible = lit≤ tt
longest Write = lit≤ tt
