-- A seat as contracts see it: which table it is of, and what it knows.
use Rattle.chunk_cursor.specs.declared.view.View.{View}
pub use Rattle.atomic_table.specs.Seated.{TableId}

pub record Hold : Type 0 where
  pub table : TableId
  pub view : View
