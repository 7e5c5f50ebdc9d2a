use Rattle.std.proofs.Common.{◌≡◌, ℕ, ◌+◌, ◌≤◌, List, ◌++◌, length, take, drop, Ok, Err, Result, ap, ◌∙◌, ap₂, arith}
use Rattle.std.proofs.Math.Seq.{take-append_seam}
use Rattle.protocol.specs.declared.command.Command.{Command}
use Rattle.protocol.specs.declared.refusal.Refusal.{Refusal}
use Rattle.protocol.specs.Commands.{code_of, length_of}
use Rattle.protocol.specs.Refusals.{WriteResult, wrote, not_written, write_result, number_of}
use Rattle.protocol.proofs.Lookups.{named_self, longest}
use Rattle.frame.specs.Makings.{Making, making, made, result_of, buffer_after}
use Rattle.frame.proofs.Makes.{makes}
use Rattle.slot.specs.Commands.{frame_of}
use Rattle.slot.proofs.asking.put_frame.Goals as goal

abbrev is_told : WriteResult → ℕ
is_told (wrote n) = 1
is_told (not_written n) = 0

abbrev number_in : WriteResult → ℕ
number_in (wrote n) = n
number_in (not_written n) = 0

-- Making has room, and gives the frame.
made_of : (c : Command) (parameters : List ℕ) (room : ℕ) → length parameters + 3 ≡ length_of c → 17 ≤ room → making (code_of c) parameters room ≡ made (frame_of c parameters)
made_of c parameters room l r =
    let short : length_of c ≤ 17 = longest c in
    makes (code_of c) parameters room c (named_self c) l (omega arith)

frame_written : (n : ℕ) (frame b after : List ℕ) → wrote n ≡ wrote (length frame) → after ≡ frame ++ drop (length frame) b → take n after ≡ frame
frame_written n frame b after e f =
    ap₂ (λ (k : ℕ) (x : List ℕ). take k x) (ap number_in e) f ∙ take-append_seam frame (drop (length frame) b)

-- What is told of a frame that is made.
told_of : (r : Result ℕ Refusal) (c : Command) (parameters b : List ℕ) (code : ℕ) → code ≡ code_of c → length parameters + 3 ≡ length_of c → 17 ≤ length b
    → write_result r ≡ result_of (making code parameters (length b)) → write_result r ≡ wrote (length (frame_of c parameters))
told_of r c parameters b code k l room e =
    e ∙ ap (λ (x : ℕ). result_of (making x parameters (length b))) k ∙ ap result_of (made_of c parameters (length b) l room)

left_of : (c : Command) (parameters b after : List ℕ) (code : ℕ) → code ≡ code_of c → length parameters + 3 ≡ length_of c → 17 ≤ length b
    → after ≡ buffer_after (making code parameters (length b)) b → after ≡ frame_of c parameters ++ drop (length (frame_of c parameters)) b
left_of c parameters b after code k l room e =
    e ∙ ap (λ (x : ℕ). buffer_after (making x parameters (length b)) b) k ∙ ap (λ (m : Making). buffer_after m b) (made_of c parameters (length b) l room)

pub returns-in-Ok-clause-made : goal.returns-in-Ok-clause-made
returns-in-Ok-clause-made c =
    let answer : wrote c.in-Ok.length ≡ wrote (length (frame_of c.args.command c.args.parameters.now)) =
    told_of (Ok c.in-Ok.length) c.args.command c.args.parameters.now c.args.frame.now c.code.result c.code.ensures c.requires.fits c.requires.room c.in-Ok.ensures.answer in
    frame_written c.in-Ok.length (frame_of c.args.command c.args.parameters.now) c.args.frame.now c.make.new.buffer answer
    (left_of c.args.command c.args.parameters.now c.args.frame.now c.make.new.buffer c.code.result c.code.ensures c.requires.fits c.requires.room c.in-Ok.ensures.buffer)

pub returns-in-Err-clause-made : goal.returns-in-Err-clause-made
returns-in-Err-clause-made c =
    absurd
    (let answer : not_written (number_of c.in-Err.field-0) ≡ wrote (length (frame_of c.args.command c.args.parameters.now)) =
    told_of (Err c.in-Err.field-0) c.args.command c.args.parameters.now c.args.frame.now c.code.result c.code.ensures c.requires.fits c.requires.room c.in-Err.ensures.answer in
    let z : ◌≡◌ {A = ℕ} 0 1 = ap is_told answer in omega arith)
