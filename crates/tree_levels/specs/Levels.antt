-- The entries of the tree laid out one place of the sequence after the other, and behind the last domain's the destination; with the hop records of each leg.
use Rattle.std.specs.Prelude.{ℕ, suc, ◌≤◌, ◌<◌, ◌≡◌, Bool, true, false, List, [], ◌∷◌, map, length, get_or, take, set, ltb}
use Rattle.model.specs.declared.NamedStop.{NamedStop}
use Rattle.model.specs.Lists.{all_different, count_from, each}
use Rattle.model.specs.Profile.{Layout, hops}
use Rattle.model.specs.Sequence.{domains_of}
use Rattle.model.specs.Request.{Search}
use Rattle.model.specs.Path.{leg_at}
use Rattle.model.specs.Tree.{entries_at, tally}
use Rattle.profile_hop_range.specs.Ranges.{PairRange}

-- the addresses at place i: the tree's entries, and behind the last domain the destination alone
abbrev pub nodes_if : Bool → Search → ℕ → List ℕ
nodes_if true S i = entries_at S i
nodes_if false S i = S.destination ∷ []

unfoldable pub nodes_at : Search → ℕ → List ℕ
nodes_at S i = nodes_if (ltb i (length S.sequence)) S i

-- the addresses of the first n places, one place after the other
unfoldable pub nodes_up_to : Search → ℕ → List ℕ
nodes_up_to S n = each (nodes_at S) (count_from 0 n)

-- where place i starts among them
abbrev pub start_of : Search → ℕ → ℕ
start_of S i = length (nodes_up_to S i)

-- the indexes of the first domains
abbrev pub indexes_of : ℕ → List NamedStop → List ℕ
indexes_of count stops = map (λ (p : NamedStop). p.domain.0) (take count stops)

-- 1 to 16 domains, none twice
pub record Several (stops : List NamedStop) (count : ℕ) : Type 0 where
  pub some : 1 ≤ count
  pub most : count ≤ 16
  pub cells : length stops ≡ 16
  pub different : all_different (indexes_of count stops) ≡ true

-- a search over the hops of this profile, these domains, from the source to the destination
pub record Covers (S : Search) (L : Layout) (s : List ℕ) (stops : List NamedStop) (count source destination : ℕ) : Type 0 where
  pub hops_are : S.hops ≡ hops L s
  pub domains_are : domains_of S.sequence ≡ indexes_of count stops
  pub source_is : S.source ≡ source
  pub destination-is : S.destination ≡ destination

-- the arrays that are lent have room for all of it
pub record Room (addresses starts firsts lasts : List ℕ) : Type 0 where
  pub for_addresses_lem : length addresses ≡ 242
  pub for_starts : length starts ≡ 18
  pub for_firsts : length firsts ≡ 16
  pub for_lasts : length lasts ≡ 16

-- leg i, from the domain d to the domain e: its hop records are those from `first` up to `last`, and stored so
pub record Noted (L : Layout) (s firsts lasts : List ℕ) (d e i : ℕ) (firsts' lasts' : List ℕ) (first last : ℕ) : Type 0 where
  pub range : PairRange L s d e first last
  pub first_stored : firsts' ≡ set firsts i first
  pub last_stored : lasts' ≡ set lasts i last

-- what is laid out: all places' addresses, each place's at most 16, at the start of one list; where each place starts, each leg's hop records, and the tally
pub record LaidOut (S : Search) (L : Layout) (s addresses starts firsts lasts : List ℕ) (hops_examined : ℕ) : Type 0 where
  pub fits : start_of S (suc (length S.sequence)) ≤ 242
  pub addresses_are : take (start_of S (suc (length S.sequence))) addresses ≡ nodes_up_to S (suc (length S.sequence))
  pub few : (i : ℕ) → length (nodes_at S i) ≤ 16
  pub starts_are : (i : ℕ) → i ≤ suc (length S.sequence) → get_or starts i 0 ≡ start_of S i
  pub ranges : (i : ℕ) → i < length S.sequence → PairRange L s (leg_at S i).from (leg_at S i).to (get_or firsts i 0) (get_or lasts i 0)
  pub tally-is : hops_examined ≡ tally S
