-- The buffers of printing.
use Rattle.std.specs.Prelude.{◌≡◌, ◌*◌, vec_len}
use Rattle.partitioner.specs.declared.split.Split.{Split}
use Rattle.answer_lines.specs.declared.room.AnswerRoom.{AnswerRoom}

-- there is room for the values of any partition of the split
pub record IsRoom (split : Split) (room : AnswerRoom) : Type 0 where
  pub bytes : vec_len room.bytes ≡ 16 * split.span
  pub values : vec_len room.values ≡ split.span
