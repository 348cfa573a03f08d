-- Where the hop records of a pair of domains stand in the file, and where those of them stand that leave one node. Records ascend, so each stand together.
use Rattle.std.specs.Prelude.{ℕ, ◌+◌, ◌*◌, ◌≤◌, ◌≡◌, Bool, ◌&&◌, List, eqb}
use Rattle.std.proofs.Math.Seq.{slice}
use Rattle.model.specs.declared.Hop.{Hop}
use Rattle.model.specs.Lists.{keep}
use Rattle.model.specs.Profile.{Layout, hop_count, hops, between}

-- what a record is found by: its two domains and its tail as one number
abbrev pub find_key : ℕ → ℕ → ℕ → ℕ
find_key d e a = (d * 65536 + e) * 4294967296 + a

abbrev pub key_of : Hop → ℕ
key_of h = find_key h.from.0 h.to.0 h.tail.0

-- a hop record of the pair leaves this node
abbrev pub leaves_node : ℕ → ℕ → ℕ → Hop → Bool
leaves_node d e a h = between d e h && eqb h.tail.0 a

-- the hop records that pass a test are those from `first` up to `last`
pub record RangeOf (p : Hop → Bool) (L : Layout) (s : List ℕ) (first last : ℕ) : Type 0 where
  pub order : first ≤ last
  pub within : last ≤ hop_count s
  pub those : keep p (hops L s) ≡ slice first last (hops L s)

-- those of a pair of domains
abbrev pub PairRange : Layout → List ℕ → ℕ → ℕ → ℕ → ℕ → Type 0
PairRange L s d e first last = RangeOf (between d e) L s first last

-- those of a pair of domains that leave a node
abbrev pub TailRange : Layout → List ℕ → ℕ → ℕ → ℕ → ℕ → ℕ → Type 0
TailRange L s d e a first last = RangeOf (leaves_node d e a) L s first last
