-- What first and next answer to an accepted request that lends enough capacity, in terms of the listing of the shortest paths: first its element 0, next the
-- least element greater than the given list, and after the listing's path i its path i + 1. By cases on the checks, and since the listing is ascending.
use mathlib.Core.Path.{◌≡◌, refl, sym, subst, ◌∙◌, ap}
use mathlib.Core.Logic.Iff
use mathlib.Core.Logic.{◌↔◌, ◌⊎◌}
use mathlib.Core.Bool.{Bool, true, false, not}
use mathlib.Core.List.Memᴰ
use mathlib.Core.List.{List, [], ◌∷◌, Memᴰ}
use Prim.Native.Nat.{ℕ, suc, ◌≤◌, ◌<◌}
use native.Mathlib.Nat.{not-suc-le-zero, le_of_eq}
use native.Mathlib.Omega.{arith}
use lib.ListN.{length, get_or, drop, drop_of_length-le}
use lib.Seq.{drop-cons}
use lib.Dec.{eqb, eqb-zero-suc}
use borrow.Author.Tests.{le-ltb, eq-eqb}
use Rattle.model.specs.declared.Round.{Round}
use Rattle.model.specs.Lists.{below}
use Rattle.model.specs.Verdict.{refuse_if, ◌and_then◌}
use Rattle.model.specs.Sequence.{Stop, Reading}
use Rattle.model.specs.Request.{Request, Accepted}
use Rattle.model.specs.Path.{Route, paths, shortest_paths}
use Rattle.model.specs.Rounds.{round_of, search_of}
use Rattle.model.specs.Answers.{plain4}
use Rattle.model.specs.Calls.{Outcome, nothing, found, room_verdict, first_of, answer_path, path_length, first_into, first, greater_than, next_into, next}
use Rattle.model.specs.Series.{no_route, refusal}
use Rattle.laws.specs.Sorted.{Sorted}
use Rattle.laws.proofs.Lists.{keep_mem, mem_keep, keep_none, sorted_keep}
use Rattle.laws.proofs.Below.{below_asym}
use Rattle.laws.proofs.Tests.{refuted}
use Rattle.laws.proofs.Ascending.{get_or_mem, sorted_least, keep-above}
use Rattle.laws.proofs.ShortestPathsExact.{Ascending, EachLong, Below, ascending_routes, shortest_ascending, shortest_long}

-- ---- the first of a list of paths

first_of-number : (round : Round) (n : ℕ) (rs : List Route) → (0 ≡ n → ⊥) → ((first_of round n rs).numbers.answer ≡ n) ↔ (rs ≡ [])
first_of-number round n [] h = (λ e. refl, λ e. refl)
first_of-number round n (p ∷ ps) h = (λ e. absurd (h e), λ e. absurd (Memᴰ.not-nil (subst (λ (l : List Route). Memᴰ p l) e (Memᴰ.head refl))))

first_of-found : (round : Round) (n : ℕ) (rs : List Route) → 0 < length rs → first_of round n rs ≡ found round (get_or rs 0 no_route)
first_of-found round n [] h = absurd (not-suc-le-zero h)
first_of-found round n (p ∷ ps) h = refl

-- ---- the paths greater than a list

-- q is the least of the listed paths that are greater than the given list
pub record LeastAbove (listing : List Route) (given : List ℕ) (q : Route) : Type 0 where
  pub listed : Memᴰ q listing
  pub greater : below given q.addresses ≡ true
  pub least : (p : Route) → Memᴰ p listing → below given p.addresses ≡ true → (p ≡ q) ⊎ (below q.addresses p.addresses ≡ true)

module _ (listing : List Route) (given : List ℕ) where
  abbrev above : Route → Bool
  above p = below given p.addresses

  above_none : (greater_than given listing ≡ []) ↔ ((p : Route) → Memᴰ p listing → below given p.addresses ≡ false)
  unfolding greater_than
  above_none = (
    λ e p m. refuted (above p) (λ t. Memᴰ.not-nil (subst (λ (l : List Route). Memᴰ p l) e (mem_keep above m t))),
    λ h. keep_none above listing h,
  )

  -- where there is one, the first of them is the least
  above-least
      : (round : Round) → Sorted Below listing
      → (p : Route) → Memᴰ p listing → below given p.addresses ≡ true
      → (q : Route) × LeastAbove listing given q × (first_of round 2 (greater_than given listing) ≡ found round q)
  unfolding greater_than
  above-least round s p m t = go (greater_than given listing) refl
    where
      go
          : (rs : List Route) → greater_than given listing ≡ rs
          → (q : Route) × LeastAbove listing given q × (first_of round 2 rs ≡ found round q)
      go [] e = absurd (Memᴰ.not-nil (subst (λ (l : List Route). Memᴰ p l) e (mem_keep above m t)))
      go (q ∷ qs) e =
          let k = keep_mem above listing (subst (λ (l : List Route). Memᴰ q l) (sym e) (Memᴰ.head refl)) in
          let u = subst (Sorted Below) e (sorted_keep Below above listing s) in (
            q,
            record {
              listed = k.0;
              greater = k.1;
              least = λ x n g. sorted_least Below u (subst (λ (l : List Route). Memᴰ x l) e (mem_keep above n g));
            },
            refl,
          )

-- of an ascending listing the paths greater than path i are those after it
pub greater-rest
    : (listing : List Route) → Ascending listing
    → (i : ℕ) → i < length listing → greater_than (get_or listing i no_route).addresses listing ≡ drop (suc i) listing
unfolding greater_than
greater-rest listing s i h =
    keep-above
    (λ (p q : Route). below p.addresses q.addresses)
    (λ p q. below_asym p.addresses q.addresses)
    listing
    i
    no_route
    h
    (ascending_routes listing s)

-- ---- the calls after the request's own checks

module _ (r : Request) (sequence : List Stop) (accepted : Accepted r sequence) where
  pub first_accepted : (room : ℕ) → first r room ≡ answer_path (room_verdict (path_length sequence) room) (round_of r sequence) 1 (shortest_paths (search_of r sequence))
  unfolding first
  first_accepted room = ap (λ (x : Reading (List Stop)). first_into r x room) accepted

  next-tested
      : (given : List ℕ) (room : ℕ) (long : Bool) → eqb (length given) (path_length sequence) ≡ long
      → next r given room
      ≡ answer_path
      (refuse_if (not long) 33 0 and_then room_verdict (path_length sequence) room)
      (round_of r sequence)
      2
      (greater_than given (shortest_paths (search_of r sequence)))
  unfolding next
  next-tested given room long e =
      ap (λ (x : Reading (List Stop)). next_into r x given room) accepted
      ∙ ap
      (λ (b : Bool).
      answer_path
      (refuse_if (not b) 33 0 and_then room_verdict (path_length sequence) room)
      (round_of r sequence)
      2
      (greater_than given (shortest_paths (search_of r sequence))))
      e

  -- next given the empty list
  pub next_unstarted : (room : ℕ) → next r [] room ≡ nothing (refusal 33)
  next_unstarted room = next-tested [] room false (eqb-zero-suc (length sequence))

  -- next given a list of as many addresses as a path has
  pub next-accepted
      : (given : List ℕ) → length given ≡ path_length sequence
      → (room : ℕ)
      → next r given room ≡ answer_path (room_verdict (path_length sequence) room) (round_of r sequence) 2 (greater_than given (shortest_paths (search_of r sequence)))
  next-accepted given e room = next-tested given room true (eq-eqb (length given) (path_length sequence) e)

  -- next given the listing's path i
  pub next-after
      : Ascending (paths (search_of r sequence)) → EachLong (path_length sequence) (paths (search_of r sequence))
      → (i : ℕ) → i < length (shortest_paths (search_of r sequence))
      → (room : ℕ)
      → next r (get_or (shortest_paths (search_of r sequence)) i no_route).addresses room
      ≡ answer_path (room_verdict (path_length sequence) room) (round_of r sequence) 2 (drop (suc i) (shortest_paths (search_of r sequence)))
  next-after ascending long i h room =
      let S = search_of r sequence in
      let p = get_or (shortest_paths S) i no_route in
      next-accepted p.addresses (shortest_long S (path_length sequence) long p (get_or_mem (shortest_paths S) i no_route h)) room
      ∙ ap (answer_path (room_verdict (path_length sequence) room) (round_of r sequence) 2) (greater-rest (shortest_paths S) (shortest_ascending S ascending) i h)

-- with enough capacity only the search is left
enough : (needed room : ℕ) → needed ≤ room → (round : Round) (n : ℕ) (ps : List Route) → answer_path (room_verdict needed room) round n ps ≡ first_of round n ps
enough needed room h round n ps = ap (λ (b : Bool). answer_path (refuse_if b 34 0) round n ps) (le-ltb room needed h)

-- ---- the laws

pub record FirstExact (round : Round) (listing : List Route) (outcome : Outcome ℕ) : Type 0 where
  -- 1 exactly when nothing is listed; then nothing else is answered or written
  pub number : (outcome.numbers.answer ≡ 1) ↔ (listing ≡ [])
  pub none : listing ≡ [] → outcome ≡ nothing (plain4 1)
  -- else the listing's path 0
  pub path : 0 < length listing → outcome ≡ found round (get_or listing 0 no_route)

pub first_exact
    : (r : Request) (sequence : List Stop) → Accepted r sequence
    → (room : ℕ) → path_length sequence ≤ room → FirstExact (round_of r sequence) (shortest_paths (search_of r sequence)) (first r room)
first_exact r sequence accepted room h =
    let round = round_of r sequence in
    let listing = shortest_paths (search_of r sequence) in
    subst (FirstExact round listing) (sym (first_accepted r sequence accepted room ∙ enough (path_length sequence) room h round 1 listing))
    (record {
      number = first_of-number round 1 listing (λ (e : 0 ≡ 1). omega arith);
      none = λ e. ap (first_of round 1) e;
      path = first_of-found round 1 listing;
    })

pub record NextExact (round : Round) (listing : List Route) (needed : ℕ) (outcome : List ℕ → Outcome ℕ) : Type 0 where
  -- 2 exactly when no listed path is greater than the given list; then nothing else is answered or written
  pub number
      : (given : List ℕ) → length given ≡ needed
      → ((outcome given).numbers.answer ≡ 2) ↔ ((p : Route) → Memᴰ p listing → below given p.addresses ≡ false)
  pub none
      : (given : List ℕ) → length given ≡ needed
      → ((p : Route) → Memᴰ p listing → below given p.addresses ≡ false)
      → outcome given ≡ nothing (plain4 2)
  -- else the least listed path greater than it
  pub path
      : (given : List ℕ) → length given ≡ needed
      → (p : Route) → Memᴰ p listing → below given p.addresses ≡ true
      → (q : Route) × LeastAbove listing given q × (outcome given ≡ found round q)
  -- after the listing's path i its path i + 1, after its last path 2
  pub after : (i : ℕ) → suc i < length listing → outcome (get_or listing i no_route).addresses ≡ found round (get_or listing (suc i) no_route)
  pub end : (i : ℕ) → suc i ≡ length listing → outcome (get_or listing i no_route).addresses ≡ nothing (plain4 2)

pub next_exact
    : (r : Request) (sequence : List Stop) → Accepted r sequence
    → Ascending (paths (search_of r sequence))
    → EachLong (path_length sequence) (paths (search_of r sequence))
    → (room : ℕ) → path_length sequence ≤ room
    → NextExact (round_of r sequence) (shortest_paths (search_of r sequence)) (path_length sequence) (λ (given : List ℕ). next r given room)
next_exact r sequence accepted ascending long room h =
    let round = round_of r sequence in
    let listing = shortest_paths (search_of r sequence) in
    let order = ascending_routes listing (shortest_ascending (search_of r sequence) ascending) in
    let o : (given : List ℕ) → length given ≡ path_length sequence → next r given room ≡ first_of round 2 (greater_than given listing) =
    λ given e. next-accepted r sequence accepted given e room ∙ enough (path_length sequence) room h round 2 (greater_than given listing) in
    let rest : (i : ℕ) → i < length listing → next r (get_or listing i no_route).addresses room ≡ first_of round 2 (drop (suc i) listing) =
    λ i l. next-after r sequence accepted ascending long i l room ∙ enough (path_length sequence) room h round 2 (drop (suc i) listing) in
    record {
      number = λ given e.
          subst
          (λ (x : Outcome ℕ). (x.numbers.answer ≡ 2) ↔ ((p : Route) → Memᴰ p listing → below given p.addresses ≡ false))
          (sym (o given e))
          (Iff.trans (first_of-number round 2 (greater_than given listing) (λ (z : 0 ≡ 2). omega arith)) (above_none listing given));
      none = λ given e n. o given e ∙ ap (first_of round 2) ((above_none listing given).1 n);
      path = λ given e p m t. let l = above-least listing given round order p m t in (l.0, l.1, o given e ∙ l.2);
      after = λ i l. rest i (omega arith) ∙ ap (first_of round 2) (drop-cons listing (suc i) no_route l);
      end = λ i e. rest i (omega arith) ∙ ap (first_of round 2) (drop_of_length-le listing (le_of_eq (sym e)));
    }
