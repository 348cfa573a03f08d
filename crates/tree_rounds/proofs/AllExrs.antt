-- All EXRS of a query's domains stand in one stretch of the include list, up to the subobject that named the last of them: one domain's behind the other's. By recursion
-- over the domains.
use Prim.Native.Nat.{ℕ, zero, suc, ◌+◌, ◌-◌, ◌<◌}
use native.Mathlib.Nat.{add-zero, zero-add}
use native.Mathlib.Omega.{arith}
use mathlib.Core.Path.{◌≡◌, sym, ap, ap₂, subst, ◌∙◌}
use mathlib.Core.List.{List, ◌++◌, append-nil, map}
use Rattle.model.specs.Lists.{count_from, each}
use Rattle.model.specs.Profile.{Layout}
use Rattle.model.specs.Subobject.{Subobject, subobjects, carried}
use Rattle.model.specs.Sequence.{Stop}
use Rattle.model.specs.Request.{all_exclusions}
use Rattle.laws.specs.Exrs.{Stretch, carried_in}
use Rattle.laws.specs.Lists.{Lists}
use Rattle.laws.specs.Stops.{named_in, stretch_start, stops_of}
use Rattle.laws.proofs.Exrs.{carried-there}
use Rattle.laws.proofs.Waiting.{stretch_join, carried_join}
use Rattle.list_exclusion.specs.Place.{all_there}
use Rattle.request.specs.declared.Query.{Query}
use Rattle.request.specs.Query.{query_stop, query_stops, last_named, Ready}

abbrev of_stop : Stop → List Subobject
of_stop p = carried p.exrs

module _ (include : List ℕ) (q : Query) (placed : (i : ℕ) → i < q.count → Stretch include (stretch_start q.stops i) (named_in q.stops i)) where
  own : (i : ℕ) → i < q.count → of_stop (query_stop include q i) ≡ carried_in include (stretch_start q.stops i) (named_in q.stops i)
  own i h = carried-there include (stretch_start q.stops i) (named_in q.stops i) (placed i h).inside (placed i h).right

  -- the domains from i on, one and m more
  abbrev Together : ℕ → ℕ → ℕ → Type 0
  Together i m last =
      Stretch include (stretch_start q.stops i) (named_in q.stops last)
      × (carried_in include (stretch_start q.stops i) (named_in q.stops last) ≡ each of_stop (map (query_stop include q) (count_from i (suc m))))

  together : (m i : ℕ) → i + m < q.count → Together i m (i + m)
  unfolding count_from each
  together zero i h =
      let l : i < q.count = omega arith in
      subst (Together i zero) (sym (add-zero i)) (placed i l, sym (own i l) ∙ sym (append-nil (of_stop (query_stop include q i))))
  together (suc m) i h =
      let l : i < q.count = omega arith in
      let e : suc i + m ≡ i + suc m = omega arith in
      let later = together m (suc i) (omega arith) in
      subst (Together i (suc m)) e (
        stretch_join include (stretch_start q.stops i) (named_in q.stops i) (named_in q.stops (suc i + m)) (placed i l) later.0,
        carried_join include (stretch_start q.stops i) (named_in q.stops i) (named_in q.stops (suc i + m)) (placed i l) later.0
            ∙ ap₂ {C = List Subobject} (λ (x y : List Subobject). x ++ y) (sym (own i l)) later.1,
      )

module _ (L : Layout) (s : List ℕ) (lists : Lists) (q : Query) (ready : Ready L s lists q) where
  all : Together lists.include q ready.placed 0 (q.count - 1) (0 + (q.count - 1))
  all = together lists.include q ready.placed (q.count - 1) 0 (omega (arith, ready.some_domain_lem))

  pub all_stretch : Stretch lists.include 0 (last_named q)
  all_stretch = subst (λ (n : ℕ). Stretch lists.include 0 (named_in q.stops n)) (zero-add (q.count - 1)) all.0

  -- so what may be only desired is looked for in one go
  pub all_there_lem : all_there lists 0 (last_named q) ≡ all_exclusions lists.exclude (query_stops lists.include q)
  unfolding all_exclusions stops_of
  all_there_lem =
      let n : suc (q.count - 1) ≡ q.count = omega (arith, ready.some_domain_lem) in
      ap {B = List Subobject} (λ (l : List Subobject). subobjects lists.exclude ++ l)
      (ap (λ (k : ℕ). carried_in lists.include 0 (named_in q.stops k)) (sym (zero-add (q.count - 1)))
      ∙ all.1
      ∙ ap (λ (k : ℕ). each of_stop (map (query_stop lists.include q) (count_from 0 k))) n)
