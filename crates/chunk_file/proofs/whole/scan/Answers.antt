use Rattle.std.proofs.Common.{ℕ, List, drop}
use Rattle.chunk_file.specs.Scans.{Scanned}
use Rattle.chunk_file.proofs.Heads.{as_told_of_any}
use Rattle.chunk_file.proofs.Scanning.{scanned_none}
use Rattle.chunk_file.proofs.whole.scan.Goals as goal

pub returns-in_err-bytes-clause-front : goal.returns-in_err-bytes-clause-front
returns-in_err-bytes-clause-front g c =
    as_told_of_any (λ told. (rest : List ℕ) × Scanned c.args.format c.args.split.now c.args.chunk c.args.engine told c.args.into.now c.args.into.now rest)
    (g.D.Disk.state c.args.disk.now).bytes
    (λ told. (drop 65 told, scanned_none c.args.format c.args.split.now c.args.chunk c.args.engine told c.args.into.now))

pub returns-in_err-edges-clause-front : goal.returns-in_err-edges-clause-front
returns-in_err-edges-clause-front g c =
    as_told_of_any (λ told. (rest : List ℕ) × Scanned c.args.format c.args.split.now c.args.chunk c.args.engine told c.args.into.now c.args.into.now rest)
    (g.D.Disk.state c.args.disk.now).bytes
    (λ told. (drop 65 told, scanned_none c.args.format c.args.split.now c.args.chunk c.args.engine told c.args.into.now))
