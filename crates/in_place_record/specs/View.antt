-- The lent record as 58 words, and what a call leaves where it is made in place. The record that words stand for is the one that
-- words_record reads off its four arrays, which lie in this order.
use Rattle.std.specs.Prelude.{ℕ, List, ◌≡◌, drop, take}
use Rattle.scope.specs.Calls.{called_of}
use Rattle.scope.specs.declared.hosts.HostCall.{HostCall}
use Rattle.scope.specs.declared.hosts.Post.{Post}
use Rattle.scope.specs.declared.hosts.Posted.{Posted}
use Rattle.scope.specs.declared.machine.Record.{Record}
use Rattle.scope.specs.declared.machine.Vcpu.{Vcpu}
use Rattle.scope.specs.Posts.{posted_of}
use Rattle.scope.specs.ReplyWords.{out_of, reply_word}
use Rattle.scope.specs.Words.{unpack_of, waiting_left}

-- x0 to x31, 13 CSRs, nine counts, the waiting part's kind and three numbers
unfoldable pub record_of : List ℕ → Record
record_of r =
    record { x = take 32 r; csrs = take 13 (drop 32 r); counts = take 9 (drop 45 r); waiting = take 4 (drop 54 r) }

-- the one view: the record that 58 words stand for
unfoldable pub view_of : List ℕ → Vcpu
view_of r = unpack_of (record_of r)

-- the promise of a call c made in place on the words `entry`: the words r that it leaves show the outcome's record, its last
-- four are those that the call leaves of what waited, the word that it returns is the reply's, and the eight of out are the
-- reply's numbers and zeros. So all 58 words are told: proofs/Told.antt
pub record Made (entry : List ℕ) (c : HostCall) (r out : List ℕ) (word : ℕ) : Type 0 where
  pub shows : view_of r ≡ (called_of (view_of entry) c).vcpu
  pub waits : drop 54 r ≡ waiting_left c (drop 54 entry) (called_of (view_of entry) c).reply (called_of (view_of entry) c).vcpu.waiting
  pub says : word ≡ reply_word (called_of (view_of entry) c).reply
  pub gives : out ≡ out_of (called_of (view_of entry) c).reply (called_of (view_of entry) c).args

-- the same of a call whose reply carries nothing
pub record Done (entry : List ℕ) (c : HostCall) (r : List ℕ) (word : ℕ) : Type 0 where
  pub shows : view_of r ≡ (called_of (view_of entry) c).vcpu
  pub waits : drop 54 r ≡ waiting_left c (drop 54 entry) (called_of (view_of entry) c).reply (called_of (view_of entry) c).vcpu.waiting
  pub says : word ≡ reply_word (called_of (view_of entry) c).reply

-- the promise of a row of posts made in place: the words r show the outcome's record, the four of what waits stay, whatever they
-- hold, and what is given is the row's
pub record MadeRow (entry : List ℕ) (ps : List Post) (r : List ℕ) (given : Posted) : Type 0 where
  pub shows : view_of r ≡ (posted_of (view_of entry) ps).vcpu
  pub waits : drop 54 r ≡ drop 54 entry
  pub says : given ≡ (posted_of (view_of entry) ps).posted
