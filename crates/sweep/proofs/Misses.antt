-- A sweep that hears nothing as lone lists nothing, so it is whole only where no tag is due. Assumes nothing.
use Rattle.std.proofs.Common.{◌≡◌, ◌≢◌, false, List, [], ◌∷◌, sym, refl, ap, ◌∙◌}
use Rattle.std.specs.List.{All, AllByRecursion}
use Rattle.std.proofs.lemmas.List.Elements.{All-from_recursion}
use Rattle.record.specs.declared.Tag.{Tag}
use Rattle.field.specs.declared.hearing.Hearing.{Hearing}
use Rattle.field.specs.declared.hearing.Hearing.TheVariants.{Silence, Lone, Clash}
use Rattle.field.specs.Airs.{Air}
use Rattle.field.specs.Sends.{Sized}
use Rattle.slot.specs.Rules.{Setting, Phase, fresh, in_silence, in_lone, in_clash, in_reading, ended, SweepState, beginning, Action, opened_by, after_action, advanced, run_by, MayHearAll}
use Rattle.sweep.specs.Effects.{is_due, times}
use Rattle.sweep.proofs.Crowds.{none_picked}
use Rattle.sweep.proofs.Actions.{by_action}
use Rattle.sweep.proofs.Runs.{Clears, over}

abbrev Unlisted : Phase → SweepState → Type 0
Unlisted fresh p = p.serials ≡ []
Unlisted in_silence p = p.serials ≡ []
Unlisted (in_lone serial) p = ⊥
Unlisted in_clash p = p.serials ≡ []
Unlisted (in_reading serial) p = ⊥
Unlisted (ended n) p = p.serials ≡ []

no_serials : (phase : Phase) (p : SweepState) → Unlisted phase p → p.serials ≡ []
no_serials fresh p e = e
no_serials in_silence p e = e
no_serials (in_lone serial) p e = absurd e
no_serials in_clash p e = e
no_serials (in_reading serial) p e = absurd e
no_serials (ended n) p e = e

unlisted_open : (h : Hearing) (air : Air) (p : SweepState) → h ≢ Lone → p.serials ≡ [] → Unlisted (opened_by h air) p
unlisted_open Silence air p other e = e
unlisted_open Lone air p other e = absurd (other refl)
unlisted_open Clash air p other e = e

abbrev StaysUnlisted : Hearing → SweepState → Phase → Action → Type 0
StaysUnlisted h p phase action = Unlisted phase p → Unlisted p.phase p → Unlisted (after_action action h p).phase (after_action action h p)

unlisted_on : (set : Setting) (h : Hearing) (p : SweepState) → h ≢ Lone → Unlisted p.phase p → Unlisted (advanced set h p).phase (advanced set h p)
unfolding advanced
unlisted_on set h p other unlisted =
    by_action set p (StaysUnlisted h p)
    (record {
      spent = λ phase over e now. no_serials phase p e;
      full = λ phase over e now. no_serials phase p e;
      crowded = λ e now. e;
      selecting = λ a b e now. unlisted_open h _ _ other e;
      scrolling = λ w a b e now. unlisted_open h _ _ other e;
      querying = λ a b e now. unlisted_open h _ _ other e;
      listing = λ serial a e now. absurd e;
      reading = λ serial a e now. absurd e;
      closing = λ w a e now. e;
      resting = λ n e now. now;
    }) p.phase unlisted unlisted

unlisted : (set : Setting) (hs : List Hearing) (p : SweepState) → AllByRecursion (λ h. h ≢ Lone) hs → Unlisted p.phase p
    → Unlisted (run_by set hs p).phase (run_by set hs p)
unfolding run_by
unlisted set [] p others e = e
unlisted set (h ∷ hs) p others e = unlisted set hs (advanced set h p) others.1 (unlisted_on set h p others.0 e)

all_clear : (tags : List Tag) (hs : List Hearing) → AllByRecursion (λ h. h ≢ Lone) hs → AllByRecursion (Clears tags) hs
all_clear tags [] others = tt
all_clear tags (h ∷ hs) others = ((λ lone. absurd (others.0 lone)), all_clear tags hs others.1)

pub none_due : (set : Setting) (hs : List Hearing) (tags : List Tag) → Sized tags → MayHearAll set hs (beginning tags) → AllByRecursion (λ h. h ≢ Lone) hs
    → (run_by set hs (beginning tags)).phase ≡ ended 0 → All (λ t. is_due t ≡ false) tags
none_due set hs tags sized heard others e =
    let p : SweepState = run_by set hs (beginning tags) in
    let o = over set hs tags sized (all_clear tags hs others) heard e in
    let none : p.serials ≡ [] = no_serials p.phase p (unlisted set hs (beginning tags) others refl) in
    All-from_recursion (λ t. is_due t ≡ false) tags (none_picked is_due tags (λ serial. sym (o.serials serial) ∙ ap (times serial) none))
