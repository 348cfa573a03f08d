-- What is answered for a query whose tree is worked out in its round, by its capacity; and for a request, by its checks. By the tests of `build_tree`.
use Prim.Native.Nat.{ℕ, ◌+◌, ◌≤◌, ◌<◌}
use native.Mathlib.Omega.{arith}
use mathlib.Core.Path.{◌≡◌, refl, sym, ap, ap₂, subst, ◌∙◌}
use mathlib.Core.Bool.{Bool, true, false}
use mathlib.Core.List.{List, Memᴰ}
use lib.ListN.{length, get_or}
use lib.Dec.{ltb}
use borrow.Author.Tests.{ltb-true, ltb-false, lt-ltb, le-ltb}
use Rattle.std.specs.Prelude.{Result, Ok, Err}
use Rattle.model.specs.declared.Hop.{Hop}
use Rattle.model.specs.declared.Refusal.{Refusal}
use Rattle.model.specs.declared.Round.{Round}
use Rattle.model.specs.declared.Round.TheVariants.{First, Second}
use Rattle.model.specs.declared.TreeEntry.{TreeEntry}
use Rattle.model.specs.Verdict.{refuse_if}
use Rattle.model.specs.Profile.{layout_in, cost_limit}
use Rattle.model.specs.Sequence.{Stop, Reading}
use Rattle.model.specs.Request.{Request, Search, Accepted, sequence_of}
use Rattle.model.specs.Rounds.{round_of, search_of, over_rounds}
use Rattle.model.specs.Sequence.{refused}
use Rattle.model.specs.Answers.{done4, refused4}
use Rattle.model.specs.Calls.{Outcome, nothing, answer_tree, tree_into, build_tree}
use Rattle.model.specs.Tree.{tree, tally}
use Rattle.laws.specs.Lists.{Lists}
use Rattle.laws.proofs.Accepted.{accepted}
use Rattle.laws.proofs.Layouts.{cost_limited, few-hops}
use Rattle.laws.proofs.AcceptedPaths.{accepted-costs}
use Rattle.request.specs.declared.Query.{Query}
use Rattle.request.specs.Query.{search_for, round_for, Ready}
use Rattle.request.proofs.Requests.{ready_in}
use Rattle.tree_levels.specs.Levels.{start_of}
use Rattle.tree_rounds.specs.declared.ChosenRound.{ChosenRound}
use Rattle.tree_rounds.specs.ChosenRound.{ChosenRoundIs}
use Rattle.tree_vspt.proofs.Sequences.{stops-long}
use Rattle.tree_fields.specs.declared.TreeResult.{TreeResult}
use Rattle.tree_fields.specs.TreeResult.{told_by, tree_outcome, tree_for, Held, TreeResultIs}
use Rattle.tree_fields.proofs.Whole.{tree-length, most, starts_at, held}

-- ---- a query whose round is settled and whose tree is worked out in it

module _
    (s : List ℕ) (lists : Lists) (q : Query) (room : ℕ) (ready : Ready (layout_in s) s lists q)
    (addresses codes starts firsts lasts : List ℕ) (r : ChosenRound) (is : ChosenRoundIs (layout_in s) s lists q addresses codes starts firsts lasts r)
  where
    abbrev p : Query
    p = r.query

    abbrev S : Search
    S = search_for (layout_in s) s lists p

    ready_settled : Ready (layout_in s) s lists p
    ready_settled = subst (Ready (layout_in s) s lists) (sym is.query_is) (ready_in (round_for (layout_in s) s lists q) q ready)

    few : length S.sequence ≤ 16
    few = omega (arith, stops-long lists.include p, ready_settled.most)

    cheap : (h : Hop) → Memᴰ h S.hops → h.cost ≤ cost_limit
    cheap h m = omega (arith, accepted-costs (layout_in s) s ready.profile-right h m, cost_limited s)

    -- the start of the place behind the last domain is the number of entries
    counted : get_or starts p.count 0 ≡ start_of S (length S.sequence)
    counted = ap (λ (k : ℕ). get_or starts k 0) (sym (stops-long lists.include p)) ∙ starts_at S few cheap (layout_in s) s addresses codes starts firsts lasts is.examined is.worked (length S.sequence) (omega arith)

    pub places-few : p.count ≤ 16
    places-few = ready_settled.most

    pub count_small : get_or starts p.count 0 ≤ 241
    count_small = omega (arith, counted, most S few cheap (layout_in s) s addresses codes starts firsts lasts is.examined is.worked)

    pub tally-small : r.tally ≤ 6000
    tally-small =
        let hops = (accepted (layout_in s) s ready.profile-right).most_hops in
        omega (arith, few-hops s, is.most, twice (round_for (layout_in s) s lists q) is.examined, is.tally-is)
      where
        twice : (x : Round) (n : ℕ) → over_rounds x n ≤ n + n
        twice First n = omega arith
        twice Second n = omega arith

    -- what is said of the settled query is said of the given one
    given_query : (x : Result TreeResult Refusal) → TreeResultIs (tree_outcome p.round S room) room addresses codes starts x → TreeResultIs (tree_for s lists q room) room addresses codes starts x
    given_query x = subst (λ (y : Query). TreeResultIs (tree_outcome y.round (search_for (layout_in s) s lists y) room) room addresses codes starts x) is.query_is

    too_small : room < get_or starts p.count 0 → TreeResultIs (tree_for s lists q room) room addresses codes starts (Err (record { number = 34; place = 0 }))
    too_small h =
        let e : room < length (tree S) = omega (arith, counted, tree-length S) in
        given_query (Err (record { number = 34; place = 0 }))
        (ap (λ (b : Bool). answer_tree (refuse_if b 34 0) p.round S) (lt-ltb room (length (tree S)) e))

    -- the whole tree
    abbrev all : TreeResult
    all = record { built = record { entries = get_or starts p.count 0; tally = r.tally; round = p.round }; places = p.count }

    tally-is : r.tally ≡ over_rounds p.round (tally S)
    tally-is = is.tally-is ∙ ap₂ over_rounds (sym (ap (λ (y : Query). y.round) is.query_is)) is.worked.laid.tally-is

    enough : get_or starts p.count 0 ≤ room → TreeResultIs (tree_for s lists q room) room addresses codes starts (Ok all)
    enough h =
        let e : length (tree S) ≤ room = omega (arith, counted, tree-length S) in
        given_query (Ok all)
        (subst (λ (o : Outcome TreeEntry). TreeResultIs o room addresses codes starts (Ok all))
        (sym (ap (λ (b : Bool). answer_tree (refuse_if b 34 0) p.round S) (le-ltb room (length (tree S)) e)))
        (record {
          numbers = ap₂ (λ (n m : ℕ). done4 n m p.round) (counted ∙ sym (tree-length S)) tally-is;
          most = count_small;
          fits = h;
          held =
              subst (λ (n : ℕ). Held (tree S) p.count n addresses codes starts) (sym counted)
              (subst (λ (k : ℕ). Held (tree S) k (start_of S (length S.sequence)) addresses codes starts) (stops-long lists.include p)
              (held S few cheap (layout_in s) s addresses codes starts firsts lasts is.examined is.worked));
        }))

    -- told by its room
    pub told-right : TreeResultIs (tree_for s lists q room) room addresses codes starts (told_by (ltb room (get_or starts p.count 0)) (get_or starts p.count 0) p.count r.tally p.round)
    told-right = go (ltb room (get_or starts p.count 0)) refl
      where
        go : (b : Bool) → ltb room (get_or starts p.count 0) ≡ b → TreeResultIs (tree_for s lists q room) room addresses codes starts (told_by b (get_or starts p.count 0) p.count r.tally p.round)
        go true e = too_small (ltb-true room (get_or starts p.count 0) e)
        go false e = enough (ltb-false room (get_or starts p.count 0) e)

-- ---- a request

module _ (req : Request) (room : ℕ) where
  pub tree-refused : (r : Refusal) → sequence_of req ≡ refused r → build_tree req room ≡ nothing (refused4 r)
  unfolding build_tree
  tree-refused r e = ap (λ (x : Reading (List Stop)). tree_into req x room) e

  pub tree-accepted
      : (sequence : List Stop) (x : Round) (S : Search) → Accepted req sequence → round_of req sequence ≡ x → search_of req sequence ≡ S
      → build_tree req room ≡ tree_outcome x S room
  unfolding build_tree
  tree-accepted sequence x S e r f =
      ap (λ (y : Reading (List Stop)). tree_into req y room) e ∙ ap₂ (λ (y : Round) (T : Search). tree_outcome y T room) r f
