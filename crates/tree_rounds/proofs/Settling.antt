-- What is laid out for a query serves it in both rounds; the source's number in the first round's tree decides which applies; and a tree filled in that round
-- is what is settled. Over plain lists, for any query that stands for the given one in a round.
use mathlib.Core.Path.{◌≡◌, sym, ap, ap₂, subst, ◌∙◌}
use mathlib.Core.Bool.{Bool, not, ◌&&◌}
use mathlib.Core.List.{List}
use Prim.Native.Nat.{ℕ, ◌≤◌}
use native.Mathlib.Omega.{arith}
use lib.ListN.{get_or}
use Rattle.model.specs.declared.Round.{Round}
use Rattle.model.specs.declared.Round.TheVariants.{First}
use Rattle.model.specs.Profile.{Layout, hop_count, hop_at, hops, cost_limit}
use Rattle.model.specs.Exclusion.{some_desired}
use Rattle.model.specs.Request.{Search}
use Rattle.model.specs.Path.{admissible}
use Rattle.model.specs.Rounds.{round_if, over_rounds}
use Rattle.model.specs.Lists.{is_empty}
use Rattle.laws.specs.Lists.{Lists}
use Rattle.laws.proofs.ProfileLists.{length-map-count_from}
use Rattle.laws.proofs.TallyMost.{tally_of_search}
use Rattle.tree_levels.specs.Levels.{Covers, LaidOut}
use Rattle.list_exclusion.specs.Place.{all_there}
use Rattle.request.specs.declared.Query.{Query}
use Rattle.request.specs.Query.{last_named, search_for, in_round, round_for, Ready}
use Rattle.request.proofs.Requests.{ready_in}
use Rattle.tree_reaches.specs.Reaches.{code_at}
use Rattle.tree_rounds.specs.Kept.{kept_by}
use Rattle.tree_vspt.specs.Tree.{LaidOutFor, TreeCodes}
use Rattle.tree_vspt.proofs.Sequences.{covers}
use Rattle.tree_rounds.specs.ChosenRound.{ChosenRoundIs}
use Rattle.tree_rounds.proofs.AllExrs.{all_there_lem}
use Rattle.tree_rounds.proofs.Source.{source-number, none_admissible}

module _
    (L : Layout) (s : List ℕ) (lists : Lists) (q : Query) (cheap : L.most_cost ≤ cost_limit) (ready : Ready L s lists q) (addresses starts firsts lasts : List ℕ) (examined : ℕ)
    (covered : (S : Search) → Covers S L s q.stops q.count q.source.0 q.destination.0 → LaidOut S L s addresses starts firsts lasts examined)
  where
    laid_in : (x : Round) → LaidOut (search_for L s lists (in_round x q)) L s addresses starts firsts lasts examined
    laid_in x = covered (search_for L s lists (in_round x q)) (covers L s lists (in_round x q) (ready_in x q ready))

    -- a round counts at most the profile's hop records
    pub examined_most : examined ≤ hop_count s
    unfolding hops
    examined_most =
        let most = tally_of_search (search_for L s lists (in_round First q)) (ready_in First q ready).apart in
        omega (arith, (laid_in First).tally-is, length-map-count_from (hop_at L s) 0 (hop_count s))

    -- a query that stands for the given one in a round
    module _ (x : Round) (p : Query) (is : p ≡ in_round x q) where
      pub ready_for : Ready L s lists p
      ready_for = subst (Ready L s lists) (sym is) (ready_in x q ready)

      pub laid_for : LaidOutFor L s lists p addresses starts firsts lasts
      laid_for = subst (λ (y : Query). LaidOutFor L s lists y addresses starts firsts lasts) (sym is) (record { examined = examined; laid = laid_in x })

      pub settled
          : round_for L s lists q ≡ x → (codes : List ℕ) → TreeCodes (search_for L s lists p) codes → (n : ℕ) → n ≡ over_rounds x examined
          → ChosenRoundIs L s lists q addresses codes starts firsts lasts (record { query = p; tally = n })
      settled round codes filled n sum =
          record {
            query_is = is ∙ ap (λ (y : Round). in_round y q) (sym round);
            examined = examined;
            worked =
                record {
                  laid = subst (λ (y : Query). LaidOut (search_for L s lists y) L s addresses starts firsts lasts examined) (sym is) (laid_in x);
                  codes_are = filled;
                };
            most = examined_most;
            tally-is = sum ∙ ap (λ (y : Round). over_rounds y examined) (sym round);
          }

    -- the first round's tree
    module _ (p : Query) (is : p ≡ in_round First q) (codes : List ℕ) (filled : TreeCodes (search_for L s lists p) codes) where
      abbrev here : ℕ
      here = get_or codes 0 0

      source_is : here ≡ code_at (search_for L s lists p) 0 p.source.0
      source_is = source-number L s lists p cheap (ready_for First p is) codes filled

      none_in_first : is_empty (admissible (search_for L s lists (in_round First q))) ≡ not (kept_by q.limits here)
      none_in_first =
          ap (λ (y : Query). is_empty (admissible (search_for L s lists y))) (sym is)
          ∙ none_admissible L s lists p cheap (ready_for First p is) here source_is
          ∙ ap (λ (y : Query). not (kept_by y.limits here)) is

      -- whether a second round is needed says which applies
      pub round_is : (b : Bool) → b ≡ some_desired (all_there lists 0 (last_named q)) && not (kept_by q.limits here) → round_for L s lists q ≡ round_if b
      unfolding round_for
      round_is b e =
          ap₂ (λ (d c : Bool). round_if (d && c)) (ap some_desired (sym (all_there_lem L s lists q ready))) none_in_first ∙ ap round_if (sym e)
