-- The status and the message of each ending.
use Rattle.std.specs.Prelude.{ℕ, ◌+◌, Bool, if◌then◌else◌, List, [], ◌∷◌, ◌++◌, take, codes, decimal}
use Rattle.store_reader.specs.declared.store.Part.{Part}
use Rattle.store_reader.specs.declared.store.Part.TheVariants.{Graph, Values, Lane}
use Rattle.endings.specs.declared.ending.Report.{Report}
use Rattle.endings.specs.declared.ending.Ending.{Ending}
use Rattle.endings.specs.declared.ending.Ending.TheVariants.{Answered, Dropped, Usage, BadLine, DiskFault, RoundLimit, Memory, ReadFault, WriteFault, NotPrepared, EnginesDiffer, Damaged, TooLong, StoreHolds}

abbrev pub status_of : Ending → ℕ
status_of (Answered report) = 0
status_of Dropped = 0
status_of Usage = 1
status_of (BadLine line) = 2
status_of DiskFault = 3
status_of (RoundLimit limit) = 4
status_of Memory = 5
status_of ReadFault = 6
status_of WriteFault = 7
status_of NotPrepared = 8
status_of (EnginesDiffer held asked) = 9
status_of (Damaged part engine place) = 10
status_of (TooLong limit) = 11
status_of StoreHolds = 12

abbrev pub with_number : List ℕ → ℕ → List ℕ → List ℕ
with_number before number after = before ++ decimal number ++ after

abbrev pub with_numbers : List ℕ → ℕ → List ℕ → ℕ → List ℕ → List ℕ
with_numbers before first between second after = with_number before first [] ++ with_number between second after

abbrev pub name_of : Part → List ℕ
name_of Graph = codes "graph "
name_of Values = codes "values "
name_of Lane = codes "lane "

-- one line for each engine from this one on, with the number of its edge chunks
abbrev pub engine_lines : (engine : ℕ) → (chunks : List ℕ) → List ℕ
engine_lines engine [] = []
engine_lines engine (count ∷ chunks) =
    with_numbers (codes "engine ") engine (codes " chunks ") count (codes "\n") ++ engine_lines (engine + 1) chunks

-- **The lines of a report**: the rounds, the edge chunks of each engine, the claims and the admissions
unfoldable pub report_lines : Report → List ℕ
report_lines report =
    with_number (codes "rounds ") report.rounds (codes "\n")
    ++ engine_lines 0 (take report.engines report.chunks)
    ++ with_number (codes "claims ") report.claims (codes "\n")
    ++ with_number (codes "admitted ") report.admitted (codes "\n")

-- one line; where the answer was printed the lines of its report, if reports are told; and nothing where the store was
-- given up
unfoldable pub message : (reports : Bool) → Ending → List ℕ
message reports (Answered report) = if reports then report_lines report else []
message reports Dropped = []
message reports Usage =
    codes "usage: chaos_cli run|bench|resume|drop [bfs ROOT|labels|sssp ROOT|degrees|pagerank ROUNDS] [options]\n"
message reports (BadLine line) = with_number (codes "line ") line (codes " is malformed\n")
message reports DiskFault = codes "disk fault\n"
message reports (RoundLimit limit) = with_number (codes "no fixpoint within ") limit (codes " rounds\n")
message reports Memory = codes "out of memory\n"
message reports ReadFault = codes "read fault\n"
message reports WriteFault = codes "write fault\n"
message reports NotPrepared = codes "store is not prepared\n"
message reports (EnginesDiffer held asked) = with_numbers (codes "held ") held (codes ", asked ") asked (codes "\n")
message reports (Damaged part engine place) = with_numbers (name_of part) engine (codes " is damaged at byte ") place (codes "\n")
message reports (TooLong limit) = with_number (codes "text is longer than ") limit (codes " bytes\n")
message reports StoreHolds = codes "store holds a job\n"
