-- The buffers of apply.
use Rattle.std.specs.Prelude.{◌≡◌, ◌+◌, ◌*◌, vec_len}
use Rattle.partitioner.specs.declared.split.Split.{Split}
use Rattle.checkpoint.specs.declared.room.ApplyRoom.{ApplyRoom}

-- there is room for any partition of the split, and for one number at least
pub record IsRoomOf (split : Split) (room : ApplyRoom) : Type 0 where
  pub bytes : vec_len room.bytes ≡ 16 * (split.span + 1)
  pub sums : vec_len room.sums ≡ split.span
  pub values : vec_len room.values ≡ split.span
