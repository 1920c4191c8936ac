-- A database whose log is written back into its file.
use Rattle.std.specs.Prelude.{◌≡◌, ℕ, []}
use Rattle.sqlite_disk.specs.declared.Disk.{Ghosts}
use Rattle.sqlite_disk.specs.declared.Files.{Files}
use Rattle.sqlite_wal.specs.Files.{outcomes, seen_image}
use Rattle.sqlite_wal.specs.Format.{be32}
use Rattle.sqlite_wal.specs.PageSize.{size_in_file}
use Rattle.sqlite_wal.specs.Reads.{AreClean}
use Rattle.sqlite_wal.specs.Recovery.{Image, IsIgnored, Pages, Recovers}

-- the page size is the one in the log's header or, with no log to replay, in the file's
pub record HasSize (image : Image) (size : ℕ) : Type 0 where
  pub by_log : ¬ IsIgnored image.log → size ≡ be32 image.log 8
  pub by_file : IsIgnored image.log → size ≡ size_in_file image.db

-- the file alone has the pages that both files stood for, and both stand for them after a crash
pub record StandsAlone {D : Type 0} (g : Ghosts D) (size : ℕ) (pages : Pages) (files : Files D)
    : Type 0 where
  pub alone : Recovers size (record { log = []; db = g.seen files.db }) pages
  pub left : (image : Image) → outcomes g files.log files.db image → Recovers size image pages

-- so it is, unless the disk has lied
abbrev pub IsWrittenBack : {D : Type 0} → Ghosts D → Files D → Files D → Type 0
IsWrittenBack g old new =
    AreClean g new.log new.db → (size : ℕ) → HasSize (seen_image g old.log old.db) size
    → (pages : Pages) → Recovers size (seen_image g old.log old.db) pages
    → StandsAlone g size pages new
