-- Which of the five words of a record is the first that is none. Assumes nothing.
use Rattle.std.proofs.Common.{ℕ, Bool, Ok, Err, inl, inr}
use Rattle.std.specs.declared.str.SplitWhitespace.{SplitWhitespace}
use Rattle.record.specs.declared.State.{State}
use Rattle.record.specs.declared.WriteMark.{WriteMark}
use Rattle.notation.specs.Hexadecimal.{SpellsByte}
use Rattle.notation.specs.Words.{SpellsBit, SpellsState, SpellsMark, SpellsPermission, ReadsNext, IsNoParts}
use Rattle.notation.specs.declared.error.NotationError.{NotationError}
use Rattle.notation.specs.declared.error.NotationError.TheVariants as notation_error

pub no_state : (a after : SplitWhitespace) (e : NotationError) → ReadsNext SpellsState notation_error.State a after (Err e) → IsNoParts a after e
unfolding IsNoParts
no_state a after e wrong = inl wrong

module _ (a b : SplitWhitespace) (s : State) (state : ReadsNext SpellsState notation_error.State a b (Ok s)) where
  pub no_flag : (after : SplitWhitespace) (e : NotationError) → ReadsNext SpellsBit notation_error.Bit b after (Err e) → IsNoParts a after e
  unfolding IsNoParts
  no_flag after e wrong = inr (s, b, state, inl wrong)

  module _ (c : SplitWhitespace) (f : Bool) (flag : ReadsNext SpellsBit notation_error.Bit b c (Ok f)) where
    pub no_counter : (after : SplitWhitespace) (e : NotationError) → ReadsNext SpellsByte notation_error.Bytes c after (Err e) → IsNoParts a after e
    unfolding IsNoParts
    no_counter after e wrong = inr (s, b, state, inr (f, c, flag, inl wrong))

    module _ (d : SplitWhitespace) (n : ℕ) (counter : ReadsNext SpellsByte notation_error.Bytes c d (Ok n)) where
      pub no_mark : (after : SplitWhitespace) (e : NotationError) → ReadsNext SpellsMark notation_error.Mark d after (Err e) → IsNoParts a after e
      unfolding IsNoParts
      no_mark after e wrong = inr (s, b, state, inr (f, c, flag, inr (n, d, counter, inl wrong)))

      pub no_permission : (p after : SplitWhitespace) (m : WriteMark) (e : NotationError) → ReadsNext SpellsMark notation_error.Mark d p (Ok m)
          → ReadsNext SpellsPermission notation_error.Bytes p after (Err e) → IsNoParts a after e
      unfolding IsNoParts
      no_permission p after m e mark wrong = inr (s, b, state, inr (f, c, flag, inr (n, d, counter, inr (m, p, mark, wrong))))
