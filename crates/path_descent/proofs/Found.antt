-- What stands for the next hop on a shortest way stands for the recursion: with no leg left the address alone, behind a hop what is found there, and where there is
-- no hop nothing. From the laws that split the cheapest suffixes by their first hop.
use mathlib.Core.Path.{◌≡◌, refl, sym, ap, subst, ◌∙◌}
use mathlib.Core.Bool.{Bool, true, false, true≢false}
use mathlib.Core.List.{List, [], ◌∷◌, head?}
use mathlib.Core.Option.{Option, none, some, map}
use Prim.Native.Nat.{ℕ, suc, ◌+◌, ◌-◌, ◌≤◌, ◌<◌}
use native.Mathlib.Omega.{arith}
use lib.ListN.{length, drop, get_or, set, length-drop}
use lib.Seq.{drop-cons}
use Rattle.model.specs.declared.Hop.{Hop}
use Rattle.model.specs.declared.TreeEntry.{TreeEntry}
use Rattle.model.specs.declared.NodeAddress.{NodeAddress}
use Rattle.model.specs.Lists.{below}
use Rattle.model.specs.Request.{Search}
use Rattle.model.specs.Path.{Leg, legs, leg_at, Route, extended, suffixes, cheapest}
use Rattle.model.specs.Calls.{greater_than}
use Rattle.laws.proofs.Lists.{keep_all, keep_mem}
use Rattle.laws.specs.Descent.{option_if, or_else, through, ending, shortest_hops, behind_first, first_from, next_after}
use Rattle.laws.proofs.Firsts.{head?-mem}
use Rattle.laws.proofs.Accepted.{accepted}
use Rattle.laws.proofs.HopKeys.{SortedHops}
use Rattle.laws.proofs.HopOrder.{hops_sorted}
use Rattle.laws.proofs.PathsAreThePaths.{length_legs}
use Rattle.laws.proofs.Suffixes.{suffix_length}
use Rattle.laws.specs.Reach.{reach_from}
use Rattle.laws.proofs.TreeLeast.{entry-is, legs_left, no_legs_left}
use Rattle.laws.proofs.Cheapest.{cheapest_mem}
use Rattle.laws.proofs.Split.{first_split, first_there}
use Rattle.laws.proofs.NextSplit.{next-after}
use Rattle.tree_reaches.specs.Reaches.{unreachable, code_if, code_at}
use Rattle.tree_vspt.proofs.Filled.{paste_one}
use Rattle.tree_vspt.proofs.Sequences.{stops-long}
use Rattle.path_step.specs.declared.Heads.{Heads}
use Rattle.path_step.specs.declared.Heads.TheVariants.{Any, Only, Above}
use Rattle.path_step.specs.declared.Onward.{Onward}
use Rattle.path_step.specs.declared.WorkedTree.{WorkedTree}
use Rattle.path_step.specs.Worked.{layout_in, Worked, Stands}
use Rattle.path_step.specs.Onward.{wanted_hops, legs_from, shortest_at, HopOn}
use Rattle.path_descent.specs.Routes.{first_by, is_found, routed, Written}
use Rattle.path_descent.proofs.Written.{set_before}

-- ---- any search, a place, an address

-- an address with a number that is a cost reaches the destination
pub reached : (S : Search) (i a here : ℕ) → Stands S i a here → (reach_from S (legs_from S i) i a).reachable ≡ true
unfolding code_at
reached S i a here stands = go (reach_from S (legs_from S i) i a).reachable refl
  where
    go : (b : Bool) → (reach_from S (legs_from S i) i a).reachable ≡ b → b ≡ true
    go true e = refl
    go false e =
        let n : code_at S i a ≡ unreachable =
        ap (λ (x : TreeEntry). code_if x.reachable x.cost) (entry-is S i a) ∙ ap (λ (b : Bool). code_if b (reach_from S (legs_from S i) i a).cost) e in
        let here_is = stands.number in
        let low = stands.reached in
        absurd (omega arith)

-- every head is wanted: the first of all
pub any_first : (S : Search) (ls : List Leg) (i a : ℕ) → (reach_from S ls i a).reachable ≡ true → first_by S ls i a Any ≡ first_from S ls i a
unfolding first_by first_from
any_first S [] i a t = refl
any_first S (leg ∷ rest) i a t =
    ap (behind_first a (λ (h : Hop). first_from S rest (suc i) h.head.0)) (keep_all (λ (h : Hop). true) (shortest_hops S leg rest i a) (λ h m. refl))
    ∙ sym (ap (λ (b : Bool). option_if b (behind_first a (λ (h : Hop). first_from S rest (suc i) h.head.0) (shortest_hops S leg rest i a))) t)

-- ---- the lengths of what is found

first_long : (S : Search) (ls : List Leg) (i a : ℕ) (r : Route) → first_from S ls i a ≡ some r → length r.addresses ≡ suc (length ls)
first_long S ls i a r e =
    suffix_length S ls i a r (cheapest_mem (suffixes S ls i a) (head?-mem (cheapest (suffixes S ls i a)) (first_split S ls i a ∙ e))).0

next_long : (S : Search) → SortedHops S.hops → (ls : List Leg) (i a : ℕ) (g : List ℕ) (r : Route) → next_after S ls i a g ≡ some r → length r.addresses ≡ suc (length ls)
unfolding greater_than
next_long S s ls i a g r e =
    let m = head?-mem (greater_than (a ∷ g) (cheapest (suffixes S ls i a))) (next-after S s ls i a g ∙ e) in
    let k = (keep_mem (λ (p : Route). below (a ∷ g) p.addresses) (cheapest (suffixes S ls i a)) m).0 in
    suffix_length S ls i a r (cheapest_mem (suffixes S ls i a) k).0

-- ---- what is written: an address before a suffix found

-- with the answer known
pub written_as : (i : ℕ) (o : Option Route) (old : List ℕ) {found : Bool} (new : List ℕ) (b : Bool) → found ≡ b → Written i o old found new → Written i o old b new
written_as i o old new b e w = record { says = sym e ∙ w.says; holds = w.holds }

-- nothing found
pub nothing_written : (i : ℕ) (o : Option Route) (old : List ℕ) → o ≡ none → Written i o old false old
nothing_written i o old e = record { says = sym (ap is_found e); holds = sym (ap (λ (x : Option Route). routed i x old) e) }

-- the address before what was found and written behind it
pub one-before
    : (i a : ℕ) (h : Hop) (o further : Option Route) (old mid : List ℕ) (r : Route)
    → o ≡ map (extended a h) further → further ≡ some r → mid ≡ routed (suc i) further old → suc i + length r.addresses ≤ length old
    → Written i o old true (set mid i a)
one-before i a h o further old mid r is found written fits =
    let e : o ≡ some (extended a h r) = is ∙ ap (map (extended a h)) found in
    record {
      says = sym (ap is_found e);
      holds =
          ap (λ (l : List ℕ). set l i a) (written ∙ ap (λ (x : Option Route). routed (suc i) x old) found)
          ∙ set_before old r.addresses i a fits
          ∙ sym (ap (λ (x : Option Route). routed i x old) e);
    }

found_some : (o : Option Route) → is_found o ≡ true → (r : Route) × (o ≡ some r)
found_some none e = absurd (true≢false (sym e))
found_some (some r) e = (r, refl)

found_none : (o : Option Route) → is_found o ≡ false → o ≡ none
found_none none e = refl
found_none (some r) e = absurd (true≢false e)

-- ---- the recursions, one call at a time

module _ (S : Search) (T : WorkedTree) (worked : Worked S T) where
  sequence-long : length S.sequence ≡ T.query.count
  sequence-long = ap length worked.sequence-is ∙ stops-long worked.include T.query

  legs_long : (i : ℕ) → length (legs_from S i) ≡ T.query.count - i
  legs_long i = length-drop i (legs S.sequence) ∙ ap (λ (n : ℕ). n - i) (length_legs S.sequence ∙ sequence-long)

  sorted : SortedHops S.hops
  sorted = subst SortedHops (sym worked.hops_are) (hops_sorted (layout_in T) T.profile.now worked.bytes (accepted (layout_in T) T.profile.now worked.right.passed))

  legs_here : (i : ℕ) → i < T.query.count → legs_from S i ≡ leg_at S i ∷ legs_from S (suc i)
  legs_here i h = legs_left S i (omega (arith, sequence-long))

  no_legs : (i : ℕ) → i ≡ T.query.count → legs_from S i ≡ []
  no_legs i h = ap (λ (n : ℕ). drop n (legs S.sequence)) (h ∙ sym sequence-long) ∙ no_legs_left S

  module _ (i a here : ℕ) (stands : Stands S i a here) where
    -- the last place: the address alone
    pub last_written : (which : Heads) (old : List ℕ) → i ≡ T.query.count → i < length old → Written i (first_by S (legs_from S i) i a which) old true (set old i a)
    unfolding first_by first_from
    last_written which old h k =
        let none_left = no_legs i h in
        let t = ap (λ (ls : List Leg). (reach_from S ls i a).reachable) (sym none_left) ∙ reached S i a here stands in
        let e : first_by S (legs_from S i) i a which ≡ some (ending a) =
        ap (λ (ls : List Leg). first_by S ls i a which) none_left ∙ ap (λ (b : Bool). option_if b (some (ending a))) t in
        record {
          says = sym (ap is_found e);
          holds = paste_one old i a k ∙ sym (ap (λ (x : Option Route). routed i x old) e);
        }

    -- behind the next hop
    pub first-behind-hop
        : (which : Heads) → i < T.query.count → (h : Hop) → head? (wanted_hops which (shortest_at S i a)) ≡ some h
        → first_by S (legs_from S i) i a which ≡ map (extended a h) (first_from S (legs_from S (suc i)) (suc i) h.head.0)
    unfolding first_by
    first-behind-hop which k h e =
        ap (λ (ls : List Leg). first_by S ls i a which) (legs_here i k)
        ∙ ap (through (λ (g : Hop). map (extended a g) (first_from S (legs_from S (suc i)) (suc i) g.head.0))) e

    -- no hop
    pub first-none : (which : Heads) → i < T.query.count → head? (wanted_hops which (shortest_at S i a)) ≡ none → first_by S (legs_from S i) i a which ≡ none
    unfolding first_by
    first-none which k e =
        ap (λ (ls : List Leg). first_by S ls i a which) (legs_here i k)
        ∙ ap (through (λ (g : Hop). map (extended a g) (first_from S (legs_from S (suc i)) (suc i) g.head.0))) e

    -- behind the hop found the call for every head has written the first; with the address before it that is the first here
    pub first-written
        : (which : Heads) (on : Onward) (old mid : List ℕ) → i < T.query.count → T.query.count < length old → HopOn S i a which on
        → mid ≡ routed (suc i) (first_by S (legs_from S (suc i)) (suc i) on.head.0 Any) old
        → Written i (first_by S (legs_from S i) i a which) old true (set mid i a)
    first-written which on old mid k fits hop written =
        let h = hop.hop in
        let v = on.head.0 in
        let head-is : h.head.0 ≡ v = ap (λ (x : NodeAddress). x.0) hop.head-is in
        let t = reached S (suc i) v on.reach hop.stands in
        let there = first_there S (legs_from S (suc i)) (suc i) v t in
        let long = first_long S (legs_from S (suc i)) (suc i) v there.0 there.1 in
        one-before i a h (first_by S (legs_from S i) i a which) (first_from S (legs_from S (suc i)) (suc i) v) old mid there.0
        (first-behind-hop which k h hop.first ∙ ap (λ (x : ℕ). map (extended a h) (first_from S (legs_from S (suc i)) (suc i) x)) head-is)
        there.1
        (written ∙ ap (λ (o : Option Route). routed (suc i) o old) (any_first S (legs_from S (suc i)) (suc i) v t))
        (omega (arith, long, legs_long (suc i)))

    -- ---- above a given list

    pub next-end : (g : List ℕ) → i ≡ T.query.count → next_after S (legs_from S i) i a g ≡ none
    unfolding next_after
    next-end g h = ap (λ (ls : List Leg). next_after S ls i a g) (no_legs i h)

    module _ (given : List ℕ) (long : length given ≡ suc T.query.count) (k : i < T.query.count) where
      abbrev y : ℕ
      y = get_or given (suc i) 0

      abbrev deeper : Hop → Option Route
      deeper h = next_after S (legs_from S (suc i)) (suc i) h.head.0 (drop (suc (suc i)) given)

      -- deeper behind the hop that the list names, or else behind the first of greater head
      split
          : next_after S (legs_from S i) i a (drop (suc i) given)
          ≡ or_else (through (λ (h : Hop). map (extended a h) (deeper h)) (head? (wanted_hops (Only (record { 0 = y })) (shortest_at S i a))))
          (first_by S (legs_from S i) i a (Above (record { 0 = y })))
      unfolding next_after first_by
      split =
          let t = ap (λ (ls : List Leg). (reach_from S ls i a).reachable) (sym (legs_here i k)) ∙ reached S i a here stands in
          let whole : Option Route =
          or_else (through (λ (h : Hop). map (extended a h) (deeper h)) (head? (wanted_hops (Only (record { 0 = y })) (shortest_at S i a))))
          (first_by S (leg_at S i ∷ legs_from S (suc i)) i a (Above (record { 0 = y }))) in
          (λ j. next_after S (legs_here i k j) i a (drop-cons given (suc i) 0 (omega arith) j))
          ∙ ap (λ (b : Bool). option_if b whole) t
          ∙ ap (λ (ls : List Leg). or_else (through (λ (h : Hop). map (extended a h) (deeper h)) (head? (wanted_hops (Only (record { 0 = y })) (shortest_at S i a)))) (first_by S ls i a (Above (record { 0 = y })))) (sym (legs_here i k))

      -- the list names no hop
      pub next-greater
          : head? (wanted_hops (Only (record { 0 = y })) (shortest_at S i a)) ≡ none
          → next_after S (legs_from S i) i a (drop (suc i) given) ≡ first_by S (legs_from S i) i a (Above (record { 0 = y }))
      next-greater e =
          split
          ∙ ap (λ (o : Option Hop). or_else (through (λ (h : Hop). map (extended a h) (deeper h)) o) (first_by S (legs_from S i) i a (Above (record { 0 = y })))) e

      module _ (on : Onward) (hop : HopOn S i a (Only (record { 0 = y })) on) where
        abbrev found-there : Option Route
        found-there = next_after S (legs_from S (suc i)) (suc i) on.head.0 (drop (suc (suc i)) given)

        named
            : next_after S (legs_from S i) i a (drop (suc i) given)
            ≡ or_else (map (extended a hop.hop) found-there) (first_by S (legs_from S i) i a (Above (record { 0 = y })))
        named =
            split
            ∙ ap (λ (o : Option Hop). or_else (through (λ (h : Hop). map (extended a h) (deeper h)) o) (first_by S (legs_from S i) i a (Above (record { 0 = y })))) hop.first
            ∙ ap
            (λ (v : NodeAddress). or_else (map (extended a hop.hop) (next_after S (legs_from S (suc i)) (suc i) v.0 (drop (suc (suc i)) given))) (first_by S (legs_from S i) i a (Above (record { 0 = y }))))
            hop.head-is

        -- nothing deeper
        pub next-shallow
            : (old mid : List ℕ) → Written (suc i) found-there old false mid
            → (mid ≡ old) × (next_after S (legs_from S i) i a (drop (suc i) given) ≡ first_by S (legs_from S i) i a (Above (record { 0 = y })))
        next-shallow old mid w =
            let none_there = found_none found-there (sym w.says) in (
              w.holds ∙ ap (λ (o : Option Route). routed (suc i) o old) none_there,
              named ∙ ap (λ (o : Option Route). or_else (map (extended a hop.hop) o) (first_by S (legs_from S i) i a (Above (record { 0 = y })))) none_there,
            )

        -- found deeper
        pub next-written
            : (old mid : List ℕ) → T.query.count < length old → Written (suc i) found-there old true mid
            → Written i (next_after S (legs_from S i) i a (drop (suc i) given)) old true (set mid i a)
        next-written old mid fits w =
            let r = found_some found-there (sym w.says) in
            let size = next_long S sorted (legs_from S (suc i)) (suc i) on.head.0 (drop (suc (suc i)) given) r.0 r.1 in
            one-before i a hop.hop (next_after S (legs_from S i) i a (drop (suc i) given)) found-there old mid r.0
            (named
            ∙ ap (λ (o : Option Route). or_else (map (extended a hop.hop) o) (first_by S (legs_from S i) i a (Above (record { 0 = y })))) r.1
            ∙ sym (ap (map (extended a hop.hop)) r.1))
            r.1
            w.holds
            (omega (arith, size, legs_long (suc i)))
