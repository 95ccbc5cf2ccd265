-- What buffers are made of.
use Rattle.std.specs.Prelude.{List, map, Vec}
use Rattle.std.specs.Global.{Global}
use Rattle.graph_model.specs.declared.edge.Edge.{Edge}
use Rattle.storage_engine.specs.declared.waiting.Buffers.TheInside.{Inside}

abbrev pub lists_in : Inside → List (List Edge)
lists_in a = map (λ (v : Vec Edge Global). v.items) a.lists.items
