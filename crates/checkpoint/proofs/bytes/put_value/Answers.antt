use Rattle.std.proofs.Common.{◌∙◌, ap, ◌+◌}
use Rattle.std.specs.Int.{to_be_bytes, w64}
use Rattle.ports.specs.Bytes.{after_write}
use Rattle.checkpoint.proofs.ByteLemmas.{put_value_is}
use Rattle.checkpoint.proofs.bytes.put_value.Goals as goal

pub returns : goal.returns
returns c =
    c.put_number-2.ensures
    ∙ ap (after_write (c.args.at + 8) (to_be_bytes w64 c.args.value.side)) c.put_number.ensures
    ∙ put_value_is c.args.at c.args.value c.args.bytes.now c.requires
