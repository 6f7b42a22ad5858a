-- Sequences of calls and rows of posts through the exported entries, by their promises alone: in place on 58 words, and by words.
use Rattle.std.specs.Prelude.{ℕ, List, [], ◌∷◌, ◌≡◌, length}
use Rattle.scope.specs.Calls.{printable}
use Rattle.scope.specs.declared.hosts.HostCall.TheVariants as host_call
use Rattle.scope.specs.declared.hosts.HostCall.{HostCall}
use Rattle.scope.specs.declared.hosts.Post.{Post}
use Rattle.scope.specs.declared.hosts.Posted.{Posted}
use Rattle.scope.specs.declared.machine.Record.{Record}
use Rattle.scope.specs.declared.traps.Reply.TheVariants as reply
use Rattle.scope.specs.declared.traps.Reply.{Reply}
use Rattle.scope.specs.ReplyWords.{out_of, reply_word}
use Rattle.words_call.specs.declared.CallWords.{CallWords}
use Rattle.words_call.specs.declared.ReplyWords.{ReplyWords}
use Rattle.words_call.specs.Words.{call_of}
use Rattle.words_entry.specs.Words.{Exported}
use Rattle.words_entry_posts.specs.Words.{ExportedRow}
use Rattle.in_place_record.specs.View.{Done, Made, MadeRow, record_of, view_of}
use Rattle.demand3_table.specs.Runs.{Sight, sight_of, step_of}
use Rattle.demand3_table.specs.Turns as turns
use Rattle.demand3_table.specs.Turns.{Turn, call}
use Rattle.demands_words.specs.Left.{turn_left}

-- how a call is made in place: with eight words lent for its reply, with none, for how much is to be printed, or for a row of posts
pub data Use : Type 0 where
  given : HostCall → Use
  plain : HostCall → Use
  count : ℕ → Use
  row : List Post → Use

unfoldable pub use_turn : Use → Turn
use_turn (given c) = call c
use_turn (plain c) = call c
use_turn (count n) = call (host_call.ToPrint n)
use_turn (row ps) = turns.post ps

unfoldable pub turns_of : List Use → List Turn
turns_of [] = []
turns_of (u ∷ us) = use_turn u ∷ turns_of us

-- what a call shows: the words lent for its reply, after it, and the word returned; of a row what it gives
pub data Shown : Type 0 where
  words : List ℕ → ℕ → Shown
  posted : Posted → Shown

unfoldable pub value_in : Reply → ℕ
value_in (reply.Value n) = n
value_in (reply.Exit x) = 0
value_in (reply.Ask a) = 0
value_in reply.Done = 0
value_in (reply.Error e) = 0

-- what it shows, of what a host sees
unfoldable pub shows_of : Use → Sight → Shown
shows_of (given c) s = words (out_of s.reply s.args) (reply_word s.reply)
shows_of (plain c) s = words [] (reply_word s.reply)
shows_of (count n) s = words [] (value_in s.reply)
shows_of (row ps) s = posted s.posted

-- one call's promise: from 58 words r it leaves s and shows this
pub data Step (r : List ℕ) : Use → List ℕ → Shown → Type 0 where
  gives : {c : HostCall} {s p : List ℕ} {w : ℕ} → Made r c s p w → Step r (given c) s (words p w)
  does : {c : HostCall} {s : List ℕ} {w : ℕ} → Done r c s w → Step r (plain c) s (words [] w)
  counts : {n w : ℕ} → w ≡ printable (view_of r).waiting n → Step r (count n) r (words [] w)
  posts : {ps : List Post} {s : List ℕ} {g : Posted} → MadeRow r ps s g → Step r (row ps) s (posted g)

-- the words r after these calls are u, and these were shown
pub data Places : List ℕ → List Use → List Shown → List ℕ → Type 0 where
  none : {r : List ℕ} → Places r [] [] r
  next : {r s u : List ℕ} {c : Use} {h : Shown} {cs : List Use} {ws : List Shown} → Step r c s h → Places s cs ws u → Places r (c ∷ cs) (h ∷ ws) u

-- the same through the entries over words: a call in words, or a row of posts

pub data Spoken : Type 0 where
  called : CallWords → Spoken
  row : List Post → Spoken

pub data Answered : Type 0 where
  replied : ReplyWords → Answered
  posted : Posted → Answered

-- the record r after these is s, and these were given
pub data Entered : Record → List Spoken → List Answered → Record → Type 0 where
  none : {r : Record} → Entered r [] [] r
  next : {r s u : Record} {c : CallWords} {g : ReplyWords} {cs : List Spoken} {gs : List Answered} → Exported r c s g → Entered s cs gs u → Entered r (called c ∷ cs) (replied g ∷ gs) u
  post : {r s u : Record} {ps : List Post} {g : Posted} {cs : List Spoken} {gs : List Answered} → ExportedRow r ps s g → Entered s cs gs u → Entered r (row ps ∷ cs) (posted g ∷ gs) u

unfoldable pub spoken_turn : Spoken → Turn
spoken_turn (called c) = call (call_of c)
spoken_turn (row ps) = turns.post ps

unfoldable pub turns_in : List Spoken → List Turn
turns_in [] = []
turns_in (c ∷ cs) = spoken_turn c ∷ turns_in cs

-- what each step leaves and shows
pub record Leads (r : List ℕ) (c : Use) (s : List ℕ) (h : Shown) : Type 0 where
  pub sized : length s ≡ 58
  pub left : record_of s ≡ turn_left (record_of r) (use_turn c)
  pub shows : view_of s ≡ step_of (view_of r) (use_turn c)
  pub says : h ≡ shows_of c (sight_of (view_of r) (use_turn c))
