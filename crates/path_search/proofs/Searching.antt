-- A search over the tree in numbers finds the first of the shortest paths above the given list: the bound is asked of the least total, and what is written is the path.
-- From the law that the next shortest path is what the recursion finds.
use mathlib.Core.Path.{◌≡◌, refl, sym, ap, subst, ◌∙◌}
use mathlib.Core.Bool.{Bool, true, false, not, ◌&&◌, true≢false}
use mathlib.Core.List.{List, [], ◌∷◌, ◌++◌, head?}
use mathlib.Core.Option.{Option, none, some}
use Rattle.std.specs.Prelude.{is_some}
use Rattle.std.specs.Option.{unwrap_or}
use Rattle.std.specs.Prelude as maybe
use Prim.Native.Nat.{ℕ, suc, ◌+◌, ◌≤◌, ◌<◌}
use native.Mathlib.Nat.{zero-add}
use native.Mathlib.Omega.{arith}
use lib.ListN.{replicate, length, take, drop, get_or}
use lib.Seq.{length-paste, take_at}
use borrow.Author.Tests.{eq-eqb, ne_eqb}
use Rattle.model.specs.declared.Round.{Round}
use Rattle.model.specs.Lists.{is_empty, below, keep, over}
use Rattle.model.specs.Profile.{Layout, cost_limit}
use Rattle.model.specs.Request.{Search}
use Rattle.model.specs.Path.{legs, keeps_bound, Route, suffixes, admissible, cheapest, shortest_paths}
use Rattle.model.specs.Calls.{greater_than}
use Rattle.laws.specs.Lists.{Lists}
use Rattle.laws.proofs.Lists.{keep_mem}
use Rattle.laws.proofs.Accepted.{accepted}
use Rattle.laws.proofs.HopKeys.{SortedHops}
use Rattle.laws.proofs.HopOrder.{hops_sorted}
use Rattle.laws.proofs.PathsAreThePaths.{length_legs}
use Rattle.laws.proofs.Suffixes.{suffix_length}
use Rattle.laws.specs.Descent.{option_if, next_from}
use Rattle.laws.proofs.Firsts.{head?-mem}
use Rattle.laws.specs.Reach.{reach_from}
use Rattle.laws.proofs.Cheapest.{cheapest_mem, cheapest_nil}
use Rattle.laws.proofs.NextSplit.{next-split, next-total, next-shortest}
use Rattle.profile_records.specs.Layout.{SoundLayout}
use Rattle.request.specs.declared.Query.{Query}
use Rattle.request.specs.Query.{search_for, round_for, Ready}
use Rattle.request.proofs.Requests.{ready_in}
use Rattle.tree_reaches.specs.Reaches.{unreachable, code_at}
use Rattle.tree_vspt.specs.Tree.{WorkedOut}
use Rattle.tree_vspt.proofs.Filled.{pasted}
use Rattle.tree_vspt.proofs.Sequences.{stops-long}
use Rattle.tree_rounds.specs.Kept.{kept_by}
use Rattle.tree_rounds.specs.declared.ChosenRound.{ChosenRound}
use Rattle.tree_rounds.specs.ChosenRound.{ChosenRoundIs}
use Rattle.tree_rounds.proofs.Source.{cost-is, small, none_admissible}
use Rattle.path_step.specs.declared.WorkedTree.{WorkedTree}
use Rattle.path_step.specs.Worked.{layout_in, Worked, Stands}
use Rattle.path_descent.specs.Routes.{is_found, routed, Written}
use Rattle.path_answers.specs.declared.FoundPath.{FoundPath}
use Rattle.path_answers.specs.declared.SearchResult.{SearchResult}
use Rattle.path_answers.specs.SearchResult.{nothing_in, found_in, ResultPath, ResultIs}
use Rattle.path_search.specs.Searched.{ResultFor}

-- what was worked out for a ready query
pub worked-for
    : (lists : Lists) (T : WorkedTree) (examined : ℕ)
    → SoundLayout (layout_in T) → ((i : ℕ) → get_or T.profile.now i 0 < 256) → Ready (layout_in T) T.profile.now lists T.query
    → WorkedOut (layout_in T) T.profile.now (search_for (layout_in T) T.profile.now lists T.query) T.levels.now.addresses T.reaches.now T.levels.now.starts T.levels.now.firsts T.levels.now.lasts examined
    → Worked (search_for (layout_in T) T.profile.now lists T.query) T
worked-for lists T examined sound bytes ready out =
    record {
      right = record { layout = sound; passed = ready.profile-right };
      bytes = bytes;
      bandwidth-right = ready.bandwidth-right;
      hops_are = refl;
      include = lists.include;
      sequence-is = refl;
      limits_are = refl;
      most = ready.most;
      stops-long = ready.stops-long;
      examined = examined;
      out = out;
    }

module _ (L : Layout) (s : List ℕ) (lists : Lists) (q : Query) (cheap : L.most_cost ≤ cost_limit) (bytes : (i : ℕ) → get_or s i 0 < 256) (ready : Ready L s lists q) where
  abbrev S : Search
  S = search_for L s lists q

  long : length S.sequence ≡ q.count
  long = stops-long lists.include q

  sorted : SortedHops S.hops
  sorted = hops_sorted L s bytes (accepted L s ready.profile-right)

  -- the source's number
  module _ (here : ℕ) (is : here ≡ code_at S 0 S.source) where
    abbrev cost : ℕ
    cost = (reach_from S (legs S.sequence) 0 S.source).cost

    pub stands : (here ≡ unreachable → ⊥) → Stands S 0 S.source here
    stands h = record { number = is; reached = omega (arith, small L s lists q cheap ready here is h) }

    -- no path is admissible, so none is listed
    pub sought_none : (given : List ℕ) → kept_by S.limits here ≡ false → head? (greater_than given (shortest_paths S)) ≡ none
    unfolding shortest_paths greater_than keep
    sought_none given f = go (admissible S) (none_admissible L s lists q cheap ready here is ∙ ap not f)
      where
        go : (rs : List Route) → is_empty rs ≡ true → head? (greater_than given (cheapest rs)) ≡ none
        go [] e = ap (λ (rs : List Route). head? (greater_than given rs)) cheapest_nil
        go (r ∷ rs) e = absurd (true≢false (sym e))

    module _ (given : List ℕ) (kept : kept_by S.limits here ≡ true) where
      pub some_way : here ≡ unreachable → ⊥
      some_way e = true≢false (sym kept ∙ ap (λ (b : Bool). not b && keeps_bound S.limits here) (eq-eqb here unreachable e))

      bound : keeps_bound S.limits cost ≡ true
      bound =
          ap (keeps_bound S.limits) (sym (cost-is L s lists q cheap ready here is some_way))
          ∙ sym (ap (λ (b : Bool). not b && keeps_bound S.limits here) (ne_eqb here unreachable some_way))
          ∙ kept

      first-is : head? (greater_than given (shortest_paths S)) ≡ next_from S (legs S.sequence) 0 S.source given
      first-is = next-shortest S sorted given ∙ ap (λ (b : Bool). option_if b (next_from S (legs S.sequence) 0 S.source given)) bound

      size : (r : Route) → next_from S (legs S.sequence) 0 S.source given ≡ some r → length r.addresses ≡ suc q.count
      unfolding greater_than
      size r e =
          let rs = cheapest (suffixes S (legs S.sequence) 0 S.source) in
          let m = head?-mem (greater_than given rs) (next-split S sorted (legs S.sequence) 0 S.source given ∙ e) in
          let k = (keep_mem (λ (p : Route). below given p.addresses) rs m).0 in
          suffix_length S (legs S.sequence) 0 S.source r (cheapest_mem (suffixes S (legs S.sequence) 0 S.source) k).0
          ∙ ap suc (length_legs S.sequence ∙ long)

      found_none : (o : Option Route) → is_found o ≡ false → o ≡ none
      found_none none e = refl
      found_none (some r) e = absurd (true≢false e)

      -- what was found and written is what is sought
      pub sought
          : (old : List ℕ) (found : Bool) (path : List ℕ) → old ≡ replicate 17 0
          → Written 0 (next_from S (legs S.sequence) 0 S.source given) old found path
          → found ≡ true
          → ResultIs S given (suc q.count) (found_in q.round here path)
      unfolding over
      sought old found path zeros w told =
          record {
            there = λ f e. subst (ResultPath S given (suc q.count)) (ap (λ (o : maybe.Option FoundPath). unwrap_or o f) e) (there-is (next_from S (legs S.sequence) 0 S.source given) refl (sym w.says ∙ told));
            missing = λ e. absurd (true≢false (ap is_some e));
          }
        where
          held : (o : Option Route) → next_from S (legs S.sequence) 0 S.source given ≡ o → length (routed 0 o old) ≡ length old
          held none e = refl
          held (some r) e = length-paste old 0 r.addresses (length r.addresses) (omega (arith, size r e, ap length zeros, ready.most)) (omega arith)

          written : (r : Route) → next_from S (legs S.sequence) 0 S.source given ≡ some r → path ≡ r.addresses ++ drop (0 + length r.addresses) old
          written r e = w.holds ∙ ap (λ (x : Option Route). routed 0 x old) e ∙ pasted old 0 r.addresses

          over-start : (r : Route) → next_from S (legs S.sequence) 0 S.source given ≡ some r → path ≡ over r.addresses (replicate 17 0)
          over-start r e =
              written r e
              ∙ ap (λ (n : ℕ). r.addresses ++ drop n old) (zero-add (length r.addresses))
              ∙ ap (λ (l : List ℕ). r.addresses ++ drop (length r.addresses) l) zeros

          there-is
              : (o : Option Route) → next_from S (legs S.sequence) 0 S.source given ≡ o → is_found o ≡ true
              → ResultPath S given (suc q.count) (record { total = here; addresses = path })
          there-is none e t = absurd (true≢false (sym t))
          there-is (some r) e t =
              record {
                path = r;
                first = first-is ∙ e;
                total-is = next-total S sorted (legs S.sequence) 0 S.source given e ∙ sym (cost-is L s lists q cheap ready here is some_way);
                addresses_are =
                    sym
                    (ap (take (suc q.count)) (written r e)
                    ∙ take_at r.addresses (drop (0 + length r.addresses) old) (suc q.count) (size r e));
                cells_are = over-start r e;
                cells = ap length w.holds ∙ held (next_from S (legs S.sequence) 0 S.source given) refl ∙ ap length zeros;
              }

      -- and where nothing was, nothing is listed
      pub none_above
          : (old : List ℕ) (found : Bool) (path : List ℕ)
          → Written 0 (next_from S (legs S.sequence) 0 S.source given) old found path
          → found ≡ false
          → head? (greater_than given (shortest_paths S)) ≡ none
      none_above old found path w told = first-is ∙ found_none (next_from S (legs S.sequence) 0 S.source given) (sym w.says ∙ told)

-- nothing found in a round, where nothing is listed
pub result_none : (S : Search) (given : List ℕ) (long : ℕ) (x : Round) (r : SearchResult) → r ≡ nothing_in x → head? (greater_than given (shortest_paths S)) ≡ none → ResultIs S given long r
result_none S given long x r e none-listed =
    subst (ResultIs S given long) (sym e)
    (record { there = λ f t. absurd (true≢false (sym (ap is_some t))); missing = λ f. none-listed })

-- a query whose round is settled: what is found for it is what is sought for the given one
module _ (L : Layout) (s : List ℕ) (lists : Lists) (q : Query) (addresses codes starts firsts lasts : List ℕ) (r : ChosenRound) (is : ChosenRoundIs L s lists q addresses codes starts firsts lasts r) where
  pub ready_settled : Ready L s lists q → Ready L s lists r.query
  ready_settled ready = subst (Ready L s lists) (sym is.query_is) (ready_in (round_for L s lists q) q ready)

  pub fits_settled : (given : List ℕ) → (1 ≤ length given → length given ≡ suc q.count) → 1 ≤ length given → length given ≡ suc r.query.count
  fits_settled given h = subst (λ (p : Query). 1 ≤ length given → length given ≡ suc p.count) (sym is.query_is) h

  pub sought-for
      : (given : List ℕ) (x : SearchResult) → x.round ≡ r.query.round → ResultIs (search_for L s lists r.query) given (suc r.query.count) x → ResultFor L s lists q given x
  sought-for given x round found =
      record {
        round_is = round ∙ ap (λ (p : Query). p.round) is.query_is;
        is = subst (λ (p : Query). ResultIs (search_for L s lists p) given (suc p.count) x) is.query_is found;
      }
