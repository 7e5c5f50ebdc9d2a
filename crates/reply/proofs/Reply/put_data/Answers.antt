use Rattle.std.proofs.Common.{rules}
use Rattle.reply.proofs.Bytes.{length-bytes_from}
use Rattle.reply.proofs.Reply.put_data.Goals as goal

pub put_memory-requires : goal.put_memory-requires
put_memory-requires c = search (rules, length-bytes_from)
