-- What a row of posts does over words. 02, W4.
use Rattle.std.specs.Prelude.{List, ◌≡◌}
use Rattle.scope.specs.Posts.{left_posted, posted_of}
use Rattle.scope.specs.Words.{unpack_of}
use Rattle.scope.specs.declared.hosts.Post.{Post}
use Rattle.scope.specs.declared.hosts.Posted.{Posted}
use Rattle.scope.specs.declared.machine.Record.{Record}

-- what the row leaves and gives: that of the record that the words stand for
unfoldable pub exported_row : Record → List Post → Record × Posted
exported_row r ps = (left_posted r ps, (posted_of (unpack_of r) ps).posted)

-- the promise: from record r, the row ps leaves record s and gives g
abbrev pub ExportedRow : Record → List Post → Record → Posted → Type 0
ExportedRow r ps s g = (s ≡ (exported_row r ps).0) × (g ≡ (exported_row r ps).1)
