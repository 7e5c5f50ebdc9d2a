use Rattle.std.proofs.Common.{rules, ℕ, ◌+◌, ◌≤◌, List, length, arith}
use Rattle.std.proofs.lemmas.Bool.{and_parts}
use Rattle.std.proofs.lemmas.Grind.{common_steps}
use Rattle.record.specs.declared.Tag.{Tag}
use Rattle.field.proofs.Buffers.{room_of}
use Rattle.composite_fields.proofs.Joining.{both_sent, both_in_place, both_may_be, both_plain, both_left}
use Rattle.composite_fields.proofs.pair.PairField.send.Goals as goal

pub returns : goal.returns
returns g c =
    let room : ℕ = length c.args.buffer.now in
    let bytes : List ℕ = c.args.bytes.now in
    let row : ℕ = c.args.row in
    let row_after : ℕ = c.row_behind.result in
    let places : ℕ = c.places-left.result in
    let left : List Tag = g.L.Field.tags c.args.self.now.left in
    let right : List Tag = g.R.Field.tags c.args.self.now.right in
    let left_new : List Tag = g.L.Field.tags c.send.new.self in
    let right_new : List Tag = g.R.Field.tags c.send_beside-other.new.right in
    let taken : 258 ≤ room = room_of room c.in_ok-heard.ensures.refusal in
    let few : length left + length right ≤ 64 = omega (arith, c.places-left.ensures, c.places-right.ensures, c.if-left-right-gt-PLACES.false) in
    record {
      refusal = search rules;
      tags = both_sent room bytes row row_after places left right left_new right_new taken few c.places-left.ensures c.row_behind.ensures
          c.send.ensures.tags c.send_beside-other.ensures.sent.tags;
      hearing = both_may_be room bytes row row_after places left right left_new right_new taken few c.places-left.ensures c.row_behind.ensures
          c.send.ensures.tags c.send_beside-other.ensures.sent.tags _ _ _ c.with.ensures.hearing c.in_ok-heard.ensures.hearing c.send_beside-other.ensures.sent.may_be;
      faithful = λ f. both_plain room bytes row row_after places left right left_new right_new taken few c.places-left.ensures c.row_behind.ensures
          c.send.ensures.tags c.send_beside-other.ensures.sent.tags _ _ _ c.with.ensures.hearing
          (c.in_ok-heard.ensures.faithful (and_parts (g.L.Field.faithful c.args.self.now.left) (g.R.Field.faithful c.args.self.now.right) f).0)
          (c.send_beside-other.ensures.sent.plain (and_parts (g.L.Field.faithful c.args.self.now.left) (g.R.Field.faithful c.args.self.now.right) f).1);
      as_faithful = search rules;
      buffer = both_left room bytes row row_after places left right left_new right_new taken few c.places-left.ensures c.row_behind.ensures
          c.send.ensures.tags c.send_beside-other.ensures.sent.tags _ _ _ c.with.ensures.hearing c.args.buffer.now c.send.new.buffer c.send_beside-other.new.buffer
          taken c.send.auto.buffer c.in_ok-heard.ensures.hearing c.send_beside-other.ensures.sent.may_be c.in_ok-heard.ensures.buffer c.send_beside-other.ensures.buffer;
      places = both_in_place room bytes row row_after places left right left_new right_new taken few c.places-left.ensures c.row_behind.ensures
          c.send.ensures.tags c.send_beside-other.ensures.sent.tags;
      kind = grind (arith, common_steps);
      same = tt;
    }
