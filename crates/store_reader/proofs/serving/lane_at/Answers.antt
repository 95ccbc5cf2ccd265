use Rattle.std.proofs.Common.{refl, length}
use Rattle.std.proofs.lemmas.Option.{slice_get_read}
use Rattle.store_reader.proofs.serving.lane_at.Goals as goal

pub returns : goal.returns
returns g c = (
  c.index-lanes-lane.result,
  slice_get_read c.args.lanes.now (length c.args.lanes.now) c.args.lane c.index-lanes-lane.result refl c.requires c.index-lanes-lane.is,
  c.deref.ensures.value,
)
