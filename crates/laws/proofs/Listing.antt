-- The listing in document 01's words: over admissible paths and their totals, not over the enumeration; and when it is empty. From what `shortest_paths_exact` says of
-- the admissible routes, each of which has the addresses of an admissible path and its total.
use Prim.Native.Nat.{ℕ, ◌≤◌}
use mathlib.Core.Path.{◌≡◌, refl, sym, ap, ap₂, subst, ◌∙◌}
use mathlib.Core.Logic.{◌↔◌, inl, inr, ⊎_elim}
use mathlib.Core.Bool.{true, not, true≢false}
use mathlib.Core.List.Memᴰ
use mathlib.Core.List.{List, [], ◌∷◌, map, Memᴰ}
use Rattle.model.specs.declared.Round.{Round}
use Rattle.model.specs.declared.Round.TheVariants.{First, Second}
use Rattle.model.specs.Lists.{is_empty, below}
use Rattle.model.specs.Profile.{domains, hops}
use Rattle.model.specs.Sequence.{Stop}
use Rattle.model.specs.Exclusion.{in_force}
use Rattle.model.specs.Subobject.{Subobject, subobjects, carried}
use Rattle.model.specs.Request.{Request, layout_for, Search, all_exclusions, search_in}
use Rattle.model.specs.Path.{Admissible, total, Route, keeps_bound, paths, admissible, shortest_paths}
use Rattle.model.specs.Rounds.{round_of, search_of}
use Rattle.laws.specs.Sorted.{Sorted}
use Rattle.laws.proofs.Lists.{keep_mem, keep_all, map_agree, map_mem, mem-map}
use Rattle.laws.proofs.HopKeys.{SortedHops}
use Rattle.laws.proofs.Suffixes.{addresses_of}
use Rattle.laws.proofs.PathsAreThePaths.{paths_total, paths_ascend, admissible_exact}
use Rattle.laws.proofs.ShortestPathsExact.{shortest_paths_exact, shortest_path}
use Rattle.laws.proofs.Reach.{least_from-reachable}
use Rattle.laws.proofs.Cheapest.{cheapest_some}
use Rattle.laws.proofs.RoundExact.{NoneAdmissible, AllClear, counts_in, RoundExact, round_exact}
pub use Rattle.laws.proofs.Listed.{Listed}

pub record Listing (S : Search) : Type 0 where
  -- the listing has exactly those
  pub exactly : (p : List ℕ) → Memᴰ p (map addresses_of (shortest_paths S)) ↔ Listed S p
  -- each below every later one, compared as unsigned numbers from the left: ascending, and so each once
  pub ascending : Sorted (λ (p q : List ℕ). below p q ≡ true) (map addresses_of (shortest_paths S))
  -- with its total
  pub totals : (r : Route) → Memᴰ r (shortest_paths S) → r.total ≡ total S r.addresses

module _ (S : Search) (sorted : SortedHops S.hops) where
  admissible-total : (r : Route) → Memᴰ r (admissible S) → r.total ≡ total S r.addresses
  unfolding admissible
  admissible-total r m = paths_total S sorted r (keep_mem (λ (q : Route). keeps_bound S.limits q.total) (paths S) m).0

  -- an admissible path is the addresses of an admissible route
  route : (p : List ℕ) → Admissible S p → (r : Route) × Memᴰ r (admissible S) × (p ≡ r.addresses)
  route p x = map_mem addresses_of (admissible S) ((admissible_exact S sorted p).1 x)

  pub the_listing : Listing S
  the_listing =
      let law = shortest_paths_exact S (paths_ascend S sorted) in
      record {
        exactly = λ p. (
          λ m.
              let r = map_mem addresses_of (shortest_paths S) m in
              let k = (law.exactly r.0).0 r.1 in
              record {
                admissible = (admissible_exact S sorted p).0 (Memᴰ.cast r.2 (mem-map addresses_of k.0));
                least = λ q x.
                    let s = route q x in
                    let a = admissible-total r.0 k.0 ∙ ap (total S) (sym r.2) in
                    let b = admissible-total s.0 s.1 ∙ ap (total S) (sym s.2) in
                    subst (λ (n : ℕ). n ≤ total S q) a (subst (λ (n : ℕ). r.0.total ≤ n) b (k.1 s.0 s.1));
              },
          λ x.
              let r = route p x.admissible in
              let a = admissible-total r.0 r.1 ∙ ap (total S) (sym r.2) in
              Memᴰ.cast r.2
              (mem-map addresses_of
              ((law.exactly r.0).1 (
                r.1,
                λ q n.
                    subst (λ (m : ℕ). m ≤ q.total) (sym a)
                    (subst (λ (m : ℕ). total S p ≤ m) (sym (admissible-total q n)) (x.least q.addresses ((admissible_exact S sorted q.addresses).0 (mem-map addresses_of n)))),
              ))),
        );
        ascending = law.ascending;
        totals = λ r m. paths_total S sorted r (shortest_path S r m);
      }

  -- nothing is listed exactly when no path is admissible
  pub empty_exactly : (shortest_paths S ≡ []) ↔ NoneAdmissible S
  unfolding shortest_paths
  empty_exactly = (
    λ e p x.
        let r = route p x in
        true≢false (sym (ap is_empty e) ∙ cheapest_some (admissible S) (least_from-reachable (admissible S) r.1)),
    λ h. go (shortest_paths S) (λ r m. h r.addresses ((the_listing.exactly r.addresses).0 (mem-map addresses_of m)).admissible),
  )
    where
      go : (rs : List Route) → ((r : Route) → Memᴰ r rs → ⊥) → rs ≡ []
      go [] h = refl
      go (r ∷ rs) h = absurd (h r (Memᴰ.head refl))

-- ---- in no round

module _ (r : Request) (sequence : List Stop) (sorted : SortedHops (hops (layout_for r) r.profile)) where
  exact : RoundExact r sequence
  exact = round_exact r sequence sorted

  -- where every exclusion has X clear, both rounds look with the same
  same-search : AllClear (all_exclusions r.exclude sequence) → search_in First r sequence ≡ search_in Second r sequence
  unfolding search_in in_force
  same-search clear =
      let same : (xs : List Subobject) → AllClear xs → in_force First xs ≡ in_force Second xs =
      λ xs c. keep_all (counts_in First) xs (λ s m. refl) ∙ sym (keep_all (counts_in Second) xs (λ s m. ap not (c s m))) in
      ap₂
      (λ (xs : List Subobject) (own : List (List Subobject)).
      record {
        domains = domains r.profile;
        hops = hops (layout_for r) r.profile;
        sequence = sequence;
        exclusions = xs;
        stretches = own;
        source = r.source;
        destination = r.destination;
        limits = r.limits;
      })
      (same (subobjects r.exclude) (λ s m. clear s ((exact.all_are s).1 (inl m))))
      (map_agree (λ (p : Stop). in_force First (carried p.exrs)) (λ (p : Stop). in_force Second (carried p.exrs)) sequence
      (λ p m. same (carried p.exrs) (λ s n. clear s ((exact.all_are s).1 (inr (p, m, n))))))

  by_round : (y : Round) → round_of r sequence ≡ y → NoneAdmissible (search_in y r sequence) → (x : Round) → NoneAdmissible (search_in x r sequence)
  by_round First e none First = none
  by_round First e none Second =
      ⊎_elim
      (λ (some : (p : List ℕ) × Admissible (search_in First r sequence) p). absurd (none some.0 some.1))
      (λ (clear : AllClear (all_exclusions r.exclude sequence)). subst NoneAdmissible (same-search clear) none)
      (exact.first.0 e)
  by_round Second e none First = (exact.second.0 e).0
  by_round Second e none Second = none

  -- where the round that applies has no admissible path, none has
  pub none_in_any : NoneAdmissible (search_of r sequence) → (x : Round) → NoneAdmissible (search_in x r sequence)
  none_in_any none = by_round (round_of r sequence) refl (subst NoneAdmissible exact.applies none)
