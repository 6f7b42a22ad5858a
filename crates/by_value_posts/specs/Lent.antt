-- What a row of posts leaves in the host's record where it lies, and what it gives back. 02, W4.
use Rattle.std.specs.Prelude.{List, ◌≡◌}
use Rattle.scope.specs.Posts.{posted_of}
use Rattle.scope.specs.declared.hosts.Post.{Post}
use Rattle.scope.specs.declared.hosts.Posted.{Posted}
use Rattle.scope.specs.declared.machine.Vcpu.{Vcpu}

-- from record v, the row ps leaves record w and gives g
abbrev pub StoredRow : Vcpu → List Post → Vcpu → Posted → Type 0
StoredRow v ps w g = (w ≡ (posted_of v ps).vcpu) × (g ≡ (posted_of v ps).posted)
