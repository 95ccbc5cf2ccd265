-- The first seat as seats are joined into it.
use Rattle.std.specs.Prelude.{List, [], ◌∷◌}
use Rattle.chunk_cursor.specs.declared.view.View.{View}
use Rattle.chunk_cursor.specs.View.{after_join}
use Rattle.chunk_cursor.specs.Hold.{Hold}

-- after joins of these seats, in order
abbrev pub joined : View → List Hold → View
joined v [] = v
joined v (seat ∷ seats) = joined (after_join v seat.view) seats
