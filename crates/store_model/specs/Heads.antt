-- The head of a graph device: a gate, and what the store is of. All numbers have a fixed width, high byte first.
use Rattle.std.specs.Prelude.{◌≡◌, ℕ, ◌≤◌, ◌==◌, if◌then◌else◌, List, [], ◌∷◌, ◌++◌, length, slice_index}
use Rattle.std.specs.Int.{to_be_bytes, w16, w64}
use Rattle.graph_model.specs.declared.job.Job.{Job}
use Rattle.graph_model.specs.declared.job.Program.{Program}
use Rattle.graph_model.specs.declared.job.Program.TheVariants.{Bfs, Labels, Sssp, Degrees, PageRank}
use Rattle.store_model.specs.Gates.{OPEN}

-- the last byte of a head
abbrev pub MARK : ℕ
MARK = 71

abbrev pub HEAD_SIZE : ℕ
HEAD_SIZE = 65

abbrev pub program_number : Program → ℕ
program_number (Bfs root) = 0
program_number Labels = 1
program_number (Sssp root) = 2
program_number Degrees = 3
program_number (PageRank rounds) = 4

abbrev pub argument : Program → ℕ
argument (Bfs root) = root
argument Labels = 0
argument (Sssp root) = root
argument Degrees = 0
argument (PageRank rounds) = rounds

-- every how many rounds a checkpoint is durable: format 1 has no place for it
abbrev pub keep_bytes : Job → List ℕ
keep_bytes job = if job.format == 1 then 0 ∷ 0 ∷ [] else to_be_bytes w16 job.keep

-- All but the mark: the gate, the format, the engines and the number of this one, the program, a zero byte and the
-- rounds between checkpoints, and then the job's numbers in eight bytes each.
unfoldable pub front : (gate : ℕ) → Job → (e : ℕ) → List ℕ
front gate job e =
    (gate ∷ job.format ∷ job.engines ∷ e ∷ program_number job.program ∷ 0 ∷ [])
    ++ keep_bytes job
    ++ to_be_bytes w64 (argument job.program)
    ++ to_be_bytes w64 job.vertices
    ++ to_be_bytes w64 job.most
    ++ to_be_bytes w64 job.chunk
    ++ to_be_bytes w64 job.seed
    ++ to_be_bytes w64 job.alpha
    ++ to_be_bytes w64 job.limit

-- **The head of the graph device of engine e.**
abbrev pub head : (gate : ℕ) → Job → (e : ℕ) → List ℕ
head gate job e = front gate job e ++ MARK ∷ []

-- a graph device with a whole head whose gate is open
pub record IsOpenGraph (bytes : List ℕ) : Type 0 where
  pub whole : HEAD_SIZE ≤ length bytes
  pub gate : slice_index bytes 0 ≡ OPEN

-- one that is not open, by its length or by its gate
abbrev pub IsShutGraph : List ℕ → Type 0
IsShutGraph bytes = IsOpenGraph bytes → ⊥
