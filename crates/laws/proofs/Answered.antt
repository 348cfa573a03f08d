-- What tree, first and next answer to an accepted request, in document 01's words: over ways, admissible paths and listed ones. From what the outcomes are of the
-- definitions' tree and listing, and what these mean (`Ways`, `Listing`).
use Prim.Native.Nat.{ℕ, ◌<◌}
use native.Mathlib.Omega.{arith}
use mathlib.Core.Path.{◌≡◌, refl, sym, ap, subst, ◌∙◌}
use mathlib.Core.Logic.Iff
use mathlib.Core.Logic.{◌↔◌, ◌⊎◌, inl, inr, ⊎_elim}
use mathlib.Core.Bool.{Bool, true, false}
use mathlib.Core.List.{List, [], ◌∷◌, map, Memᴰ}
use lib.ListN.{length, get_or}
use lib.Dec.{ltb}
use Rattle.model.specs.declared.Round.{Round}
use Rattle.model.specs.declared.TreeEntry.{TreeEntry}
use Rattle.model.specs.Lists.{any, below}
use Rattle.model.specs.Profile.{hops}
use Rattle.model.specs.Verdict.{refuse_if}
use Rattle.model.specs.Sequence.{Stop, Reading}
use Rattle.model.specs.Request.{Request, layout_for, Search, search_in, Accepted}
use Rattle.model.specs.Path.{total, Route, shortest_paths}
use Rattle.model.specs.Tree.{tree}
use Rattle.model.specs.Rounds.{round_of, search_of}
use Rattle.model.specs.Calls.{Outcome, found, answer_tree, tree_into, build_tree}
use Rattle.model.specs.Series.{no_route}
use Rattle.laws.specs.Sorted.{Sorted}
use Rattle.laws.proofs.Tests.{decide}
use Rattle.laws.proofs.Lists.{any_mem, any_false, map_mem, mem-map}
use Rattle.laws.proofs.HopKeys.{SortedHops}
use Rattle.laws.proofs.Ascending.{sorted_least}
use Rattle.laws.proofs.Suffixes.{addresses_of}
use Rattle.laws.proofs.RoundExact.{NoneAdmissible}
use Rattle.laws.proofs.FirstNextExact.{FirstExact, NextExact}
use Rattle.laws.proofs.Ways.{EntryMeans, entry-means, TreeHas, tree_has}
use Rattle.laws.proofs.Listing.{Listed, Listing, the_listing, empty_exactly}

-- ---- tree

-- an answer 0 writes the tree: its entries, and what each says
pub record TreeMeans (S : Search) (o : Outcome TreeEntry) : Type 0 where
  pub entries : o.numbers.answer ≡ 0 → TreeHas S o.written
  pub each_entry : o.numbers.answer ≡ 0 → (e : TreeEntry) → Memᴰ e o.written → EntryMeans S e

pub tree-means : (r : Request) (sequence : List Stop) → Accepted r sequence → SortedHops (hops (layout_for r) r.profile) → (room : ℕ) → TreeMeans (search_of r sequence) (build_tree r room)
unfolding build_tree search_of search_in
tree-means r sequence is sorted room =
    subst (λ (x : Reading (List Stop)). TreeMeans S (tree_into r x room)) (sym is) (go (ltb room (length (tree S))))
  where
    no : ◌≡◌ {A = ℕ} 34 0 → ⊥
    no e = omega arith

    S : Search
    S = search_of r sequence

    go : (small : Bool) → TreeMeans S (answer_tree (refuse_if small 34 0) (round_of r sequence) S)
    go true = record { entries = λ e. absurd (no e); each_entry = λ e. absurd (no e) }
    go false = record { entries = λ e. tree_has S; each_entry = λ e x m. entry-means S sorted x m }

-- ---- first and next

-- p is the least listed path that passes a test, with its total
pub record LeastListed (S : Search) (passes : List ℕ → Bool) (o : Outcome ℕ) : Type 0 where
  pub listed : Listed S o.written
  pub passed : passes o.written ≡ true
  pub least : (q : List ℕ) → Listed S q → passes q ≡ true → (q ≡ o.written) ⊎ (below o.written q ≡ true)
  pub told : get_or o.numbers.others 1 0 ≡ total S o.written

-- 1 exactly when no path is admissible, else the first of the listed
pub record FirstMeans (S : Search) (o : Outcome ℕ) : Type 0 where
  pub none : (o.numbers.answer ≡ 1) ↔ NoneAdmissible S
  pub path : o.numbers.answer ≡ 0 → LeastListed S (λ (p : List ℕ). true) o

-- 2 exactly when no listed path is greater than the given list, else the least that is
pub record NextMeans (S : Search) (given : List ℕ) (o : Outcome ℕ) : Type 0 where
  pub end : (o.numbers.answer ≡ 2) ↔ ((p : List ℕ) → Listed S p → below given p ≡ false)
  pub path : o.numbers.answer ≡ 0 → LeastListed S (below given) o

module _ (S : Search) (sorted : SortedHops S.hops) where
  law : Listing S
  law = the_listing S sorted

  -- a listed path as a route
  route : (p : List ℕ) → Listed S p → (r : Route) × Memᴰ r (shortest_paths S) × (p ≡ r.addresses)
  route p x = map_mem addresses_of (shortest_paths S) ((law.exactly p).1 x)

  listed : (r : Route) → Memᴰ r (shortest_paths S) → Listed S r.addresses
  listed r m = (law.exactly r.addresses).0 (mem-map addresses_of m)

  pub first_means : (round : Round) (o : Outcome ℕ) → FirstExact round (shortest_paths S) o → FirstMeans S o
  first_means round o exact = record { none = Iff.trans exact.number (empty_exactly S sorted); path = λ e. go e (shortest_paths S) refl }
    where
      go : o.numbers.answer ≡ 0 → (rs : List Route) → shortest_paths S ≡ rs → LeastListed S (λ (p : List ℕ). true) o
      go e [] is = absurd (let one = exact.number.1 is in omega arith)
      go e (p ∷ ps) is =
          let some : 0 < length (shortest_paths S) = subst (λ (l : List Route). 0 < length l) (sym is) (omega arith) in
          let it : o ≡ found round p = exact.path some ∙ ap (λ (l : List Route). found round (get_or l 0 no_route)) is in
          let here : Memᴰ p (shortest_paths S) = subst (λ (l : List Route). Memᴰ p l) (sym is) (mathlib.Core.List.Memᴰ.head refl) in
          subst (LeastListed S (λ (q : List ℕ). true)) (sym it)
          (record {
            listed = listed p here;
            passed = refl;
            least = λ q x t.
                sorted_least (λ (a b : List ℕ). below a b ≡ true)
                (subst (λ (l : List Route). Sorted (λ (a b : List ℕ). below a b ≡ true) (map addresses_of l)) is law.ascending)
                (subst (λ (l : List Route). Memᴰ q (map addresses_of l)) is ((law.exactly q).1 x));
            told = law.totals p here;
          })

  pub next-means
      : (round : Round) (needed : ℕ) (outcome : List ℕ → Outcome ℕ) → NextExact round (shortest_paths S) needed outcome
      → (given : List ℕ) → length given ≡ needed → NextMeans S given (outcome given)
  next-means round needed outcome exact given long =
      record {
        end = (
          λ e p x. let r = route p x in ap (below given) r.2 ∙ (exact.number given long).0 e r.0 r.1,
          λ h. (exact.number given long).1 (λ p m. h p.addresses (listed p m)),
        );
        path = λ e.
            ⊎_elim
            (λ (t : any test (shortest_paths S) ≡ true). let x = any_mem test (shortest_paths S) t in least x.0 x.1 x.2)
            (λ (f : any test (shortest_paths S) ≡ false). absurd (let two = (exact.number given long).1 (λ p m. any_false test f m) in omega arith))
            (decide (any test (shortest_paths S)));
      }
    where
      test : Route → Bool
      test p = below given p.addresses

      least : (p : Route) → Memᴰ p (shortest_paths S) → below given p.addresses ≡ true → LeastListed S (below given) (outcome given)
      least p m t =
          let x = exact.path given long p m t in
          let q = x.0 in
          subst (LeastListed S (below given)) (sym x.2)
          (record {
            listed = listed q x.1.listed;
            passed = x.1.greater;
            least = λ a y g.
                let b = route a y in
                ⊎_elim
                (λ (e : b.0 ≡ q). inl (b.2 ∙ ap addresses_of e))
                (λ (l : below q.addresses b.0.addresses ≡ true). inr (ap (below q.addresses) b.2 ∙ l))
                (x.1.least b.0 b.1 (sym (ap (below given) b.2) ∙ g));
            told = law.totals q x.1.listed;
          })
