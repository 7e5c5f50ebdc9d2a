use Rattle.std.proofs.Common.{rules}
use Rattle.std.proofs.lemmas.List.{length-take-le}
use Rattle.reply.proofs.Bytes.{length-bytes_from, length-sealed}
use Rattle.reply.proofs.Reply.length.Goals as goal

pub returns-in-Serial : goal.returns-in-Serial
returns-in-Serial c = search (rules, length-sealed, length-take-le)

pub returns-in-Memory : goal.returns-in-Memory
returns-in-Memory c = search (rules, length-sealed, length-bytes_from)

pub returns-in-Status : goal.returns-in-Status
returns-in-Status c = search (rules, length-sealed)
