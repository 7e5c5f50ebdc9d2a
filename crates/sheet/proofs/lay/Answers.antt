use Rattle.std.proofs.Common.{rules, ◌≡◌, length, ℕ, List, [], ◌++◌, refl, ap, ap₂, sym, drop, ◌∙◌, append-nil}
use Rattle.std.specs.Borrow.{MutBor}
use Rattle.protocol.specs.Refusals.{wrote}
use Rattle.slice_vec.specs.Filling.{items_of}
use Rattle.slice_vec.proofs.Fillings.{storage_filled}
use Rattle.sheet.specs.Sheets.{sheet}
use Rattle.sheet.specs.Fronts.{Filled}
use Rattle.sheet.proofs.lay.Goals as goal

pub returns : goal.returns
returns c =
    let bytes : List ℕ = sheet c.args.slots.now c.args.serials.now c.args.report.now in
    let n = c.new-front.ensures in
    let start = c.new-front.result in
    let begun : Filled start start [] = record { bytes = sym (append-nil (items_of start)); behind = record { storage = refl; room = refl; lender = refl } } in
    let filled : Filled start c.print.new.paper bytes = c.in_ok-print.ensures.shows refl start [] begun in
    let rows : items_of c.print.new.paper ≡ bytes = filled.bytes ∙ ap (λ (xs : List ℕ). xs ++ bytes) n.items in
    let text : c.print.new.paper.storage.now ≡ bytes ++ drop (length bytes) c.args.buffer.now =
    storage_filled start c.print.new.paper filled.behind
    ∙ ap₂ (λ (xs ys : List ℕ). xs ++ drop (length xs) ys) rows (ap (λ (m : MutBor (List ℕ)). m.now) n.storage) in
    record {
      answer = ap wrote (c.len.ensures ∙ ap length rows);
      buffer = search rules;
    }
