-- Which round of a request applies, and with which exclusions: document 02, request [1]. It is said of admissible paths in document 01's words, not of the
-- enumeration: by `admissible_exact`, and by what `any` and `keep` say of their elements.
use mathlib.Core.Path.{◌≡◌, refl, sym, ap, subst, ◌∙◌}
use mathlib.Core.Logic.{◌↔◌, ◌⊎◌, inl, inr, ⊎_elim}
use mathlib.Core.Bool.{Bool, true, false, not, ◌&&◌, true≢false}
use mathlib.Core.List.Memᴰ
use mathlib.Core.List.{List, [], ◌∷◌, map, Memᴰ}
use Prim.Native.Nat.{ℕ, zero, suc}
use lib.ListN.{get_or}
use native.Mathlib.Omega.{arith}
use borrow.Author.Tests.{not-true}
use Rattle.model.specs.declared.Round.{Round}
use Rattle.model.specs.declared.Round.TheVariants.{First, Second}
use Rattle.model.specs.Lists.{is_empty, each, keep}
use Rattle.model.specs.Along.{places_along}
use Rattle.model.specs.Subobject.{Subobject, subobjects, carried}
use Rattle.model.specs.Sequence.{Stop}
use Rattle.model.specs.Exclusion.{counts, in_force, some_desired}
use Rattle.model.specs.Profile.{hops}
use Rattle.model.specs.Request.{Request, layout_for, Search, all_exclusions, search_in}
use Rattle.model.specs.Path.{Admissible, Route, no_stop, admissible}
use Rattle.model.specs.Rounds.{round_if, round_by, round_of, search_of}
use Rattle.laws.proofs.Tests.{decide, and_both, both_and, and-false, clash, refuted}
use Rattle.laws.proofs.Lists.{keep_mem, mem_keep, keep_all, any_mem, mem_any, any_false, mem-map, each_mem, mem_each}
use Rattle.laws.proofs.HopKeys.{SortedHops}
use Rattle.laws.proofs.Suffixes.{addresses_of}
use Rattle.laws.proofs.PathsAreThePaths.{admissible_exact}

-- ---- what is said of a request

-- an exclusion counts in a round, by its X bit
abbrev pub counts_in : Round → Subobject → Bool
counts_in x s = counts x s.top

-- no path of a search is admissible
abbrev pub NoneAdmissible : Search → Type 0
NoneAdmissible S = (p : List ℕ) → Admissible S p → ⊥

-- of some exclusions none has X set
abbrev pub AllClear : List Subobject → Type 0
AllClear exclusions = (s : Subobject) → Memᴰ s exclusions → s.top ≡ false

pub record RoundExact (r : Request) (sequence : List Stop) : Type 0 where
  -- the second round applies exactly when no path is admissible in the first and some exclusion has X set
  pub second
      : (round_of r sequence ≡ Second)
      ↔ (NoneAdmissible (search_in First r sequence) × (s : Subobject) × Memᴰ s (all_exclusions r.exclude sequence) × (s.top ≡ true))
  -- the first exactly when some path is admissible in it or no exclusion has X set
  pub first
      : (round_of r sequence ≡ First)
      ↔ (((p : List ℕ) × Admissible (search_in First r sequence) p) ⊎ AllClear (all_exclusions r.exclude sequence))
  -- all exclusions are those of the exclude list and those that the EXRS of some domain carry
  pub all_are
      : (s : Subobject)
      → Memᴰ s (all_exclusions r.exclude sequence)
      ↔ (Memᴰ s (subobjects r.exclude) ⊎ ((p : Stop) × Memᴰ p sequence × Memᴰ s (carried p.exrs)))
  -- the first round has every exclusion, the second those of X clear: at every place,
  pub all_in_first : (search_in First r sequence).exclusions ≡ subobjects r.exclude
  pub kept-in-second
      : (s : Subobject)
      → Memᴰ s (search_in Second r sequence).exclusions ↔ (Memᴰ s (subobjects r.exclude) × (s.top ≡ false))
  -- and at the place of each domain those of its own EXRS
  pub own_in_first : (i : ℕ) → get_or (search_in First r sequence).stretches i [] ≡ carried (get_or sequence i no_stop).exrs
  pub own-in-second
      : (i : ℕ) (s : Subobject)
      → Memᴰ s (get_or (search_in Second r sequence).stretches i []) ↔ (Memᴰ s (carried (get_or sequence i no_stop).exrs) × (s.top ≡ false))
  -- and the search that counts is that of the round that applies
  pub applies : search_of r sequence ≡ search_in (round_of r sequence) r sequence

-- ---- an empty enumeration

module _ (S : Search) (sorted : SortedHops S.hops) where
  empty_none : is_empty (admissible S) ≡ true → NoneAdmissible S
  empty_none t p x = go (admissible S) t ((admissible_exact S sorted p).1 x)
    where
      go : (rs : List Route) → is_empty rs ≡ true → Memᴰ p (map addresses_of rs) → ⊥
      go [] e m = Memᴰ.not-nil m
      go (q ∷ qs) e m = true≢false (sym e)

  some_admissible : is_empty (admissible S) ≡ false → (p : List ℕ) × Admissible S p
  some_admissible f = go (admissible S) f (λ q m. (q.addresses, (admissible_exact S sorted q.addresses).0 (mem-map addresses_of m)))
    where
      go : (rs : List Route) → is_empty rs ≡ false → ((q : Route) → Memᴰ q rs → (p : List ℕ) × Admissible S p) → (p : List ℕ) × Admissible S p
      go [] e h = absurd (true≢false e)
      go (q ∷ qs) e h = h q (Memᴰ.head refl)

  none_empty : NoneAdmissible S → is_empty (admissible S) ≡ true
  none_empty h =
      ⊎_elim (λ t. t) (λ f. let x = some_admissible f in absurd (h x.0 x.1)) (decide (is_empty (admissible S)))

-- ---- the round, by the two tests that decide it

rounds_differ : {P : Type 0} → First ≡ Second → P
rounds_differ e = let z : ◌≡◌ {A = ℕ} 0 1 = cc in absurd (omega arith)

round_if_second : (b : Bool) → round_if b ≡ Second → b ≡ true
round_if_second true e = refl
round_if_second false e = rounds_differ e

round_if_first : (b : Bool) → round_if b ≡ First → b ≡ false
round_if_first true e = rounds_differ (sym e)
round_if_first false e = refl

module _ (exclusions : List Subobject) (S : Search) where
  abbrev test : Bool
  test = some_desired exclusions && is_empty (admissible S)

  by_second : round_by exclusions S ≡ Second → (some_desired exclusions ≡ true) × (is_empty (admissible S) ≡ true)
  by_second e = and_both (some_desired exclusions) (is_empty (admissible S)) (round_if_second test e)

  second_by : some_desired exclusions ≡ true → is_empty (admissible S) ≡ true → round_by exclusions S ≡ Second
  second_by d n = ap round_if (both_and (some_desired exclusions) (is_empty (admissible S)) d n)

  by_first : round_by exclusions S ≡ First → some_desired exclusions ≡ true → is_empty (admissible S) ≡ false
  by_first e d = and-false (some_desired exclusions) (is_empty (admissible S)) (round_if_first test e) d

  -- it is one of the two
  first_else : (round_by exclusions S ≡ Second → ⊥) → round_by exclusions S ≡ First
  first_else h = ap round_if (refuted test (λ t. h (ap round_if t)))

-- ---- the exclusions of a domain's own EXRS

-- in a round, at each place; behind the last domain there are none
pub own-exclusions
    : (x : Round) (r : Request) (sequence : List Stop) (i : ℕ)
    → get_or (search_in x r sequence).stretches i [] ≡ in_force x (carried (get_or sequence i no_stop).exrs)
unfolding search_in in_force keep carried subobjects each places_along
own-exclusions x r sequence i = go sequence i
  where
    go : (ps : List Stop) (j : ℕ) → get_or (map (λ (p : Stop). in_force x (carried p.exrs)) ps) j [] ≡ in_force x (carried (get_or ps j no_stop).exrs)
    go [] j = refl
    go (p ∷ ps) zero = refl
    go (p ∷ ps) (suc j) = go ps j

-- ---- the law

pub round_exact : (r : Request) (sequence : List Stop) → SortedHops (hops (layout_for r) r.profile) → RoundExact r sequence
unfolding round_of search_of search_in in_force some_desired all_exclusions
round_exact r sequence sorted =
    let S = search_in First r sequence in
    let subs = all_exclusions r.exclude sequence in
    let top : Subobject → Bool = λ (s : Subobject). s.top in
    record {
      second = (
        λ e. let b = by_second subs S e in let d = any_mem top subs b.0 in (empty_none S sorted b.1, d.0, d.1, d.2),
        λ h. second_by subs S (mem_any top h.2 h.3) (none_empty S sorted h.0),
      );
      first = (
        λ e.
            ⊎_elim
            (λ (d : some_desired subs ≡ true). inl (some_admissible S sorted (by_first subs S e d)))
            (λ (c : some_desired subs ≡ false). inr (λ s m. any_false top c m))
            (decide (some_desired subs)),
        ⊎_elim
            (λ x. first_else subs S (λ e. empty_none S sorted (by_second subs S e).1 x.0 x.1))
            (λ c. first_else subs S (λ e. let d = any_mem top subs (by_second subs S e).0 in clash d.2 (c d.0 d.1))),
      );
      all_are = λ s. all_mem s;
      all_in_first = first_all (subobjects r.exclude);
      kept-in-second = second_clear (subobjects r.exclude);
      own_in_first = λ i. own-exclusions First r sequence i ∙ first_all (carried (get_or sequence i no_stop).exrs);
      own-in-second = λ i s.
          subst (λ (xs : List Subobject). Memᴰ s xs ↔ (Memᴰ s (carried (get_or sequence i no_stop).exrs) × (s.top ≡ false))) (sym (own-exclusions Second r sequence i))
          (second_clear (carried (get_or sequence i no_stop).exrs) s);
      applies = refl;
    }
  where
    first_all : (xs : List Subobject) → in_force First xs ≡ xs
    first_all xs = keep_all (counts_in First) xs (λ s m. refl)

    second_clear : (xs : List Subobject) (s : Subobject) → Memᴰ s (in_force Second xs) ↔ (Memᴰ s xs × (s.top ≡ false))
    second_clear xs s = (
      λ m. let k = keep_mem (counts_in Second) xs m in (k.0, not-true s.top k.1),
      λ h. mem_keep (counts_in Second) h.0 (ap not h.1),
    )

    all_mem
        : (s : Subobject)
        → Memᴰ s (all_exclusions r.exclude sequence)
        ↔ (Memᴰ s (subobjects r.exclude) ⊎ ((p : Stop) × Memᴰ p sequence × Memᴰ s (carried p.exrs)))
    all_mem s = (
      λ m.
          ⊎_elim (λ h. inl h) (λ h. inr (each_mem (λ (p : Stop). carried p.exrs) sequence h))
          (Memᴰ.append_cases (subobjects r.exclude) m),
      ⊎_elim (λ h. Memᴰ.append_left (each (λ (p : Stop). carried p.exrs) sequence) h) (λ h. Memᴰ.append_right (subobjects r.exclude) (mem_each (λ (p : Stop). carried p.exrs) h.1 h.2)),
    )
