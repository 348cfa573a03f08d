-- What is demanded of the calculator, sentence by sentence, each with the theorem that states it: over accepted requests and bytes and nothing else, by ways, paths,
-- admissible paths and their totals, the calls' outcomes and document 01's book. That the code answers as these outcomes say is each call's own contract
-- (`docs/CLAIMS.md`); what is demanded of messages stands in `Demands` of `pcep_laws`.
use Prim.Native.Nat.{ℕ, ◌^◌, ◌≤◌, ◌<◌}
use mathlib.Core.Path.{◌≡◌, sym, subst}
use mathlib.Core.Logic.Iff
use mathlib.Core.Logic.{◌↔◌}
use mathlib.Core.Bool.{true, false}
use mathlib.Core.List.{List, [], ◌∷◌, ◌++◌}
use lib.ListN.{length, get_or}
use Rattle.model.specs.Verdict.{Pass}
use Rattle.model.specs.declared.Round.{Round}
use Rattle.model.specs.declared.ListKind.{ListKind}
use Rattle.model.specs.Profile.{Layout, profile_verdict, domain_count, domain_at, domains, hops, verdict_on}
use Rattle.model.specs.Subobject.{form_verdict, subobjects}
use Rattle.model.specs.Sequence.{Stop, good, domains_of}
use Rattle.model.specs.WrittenList.{stops, written, unwritable}
use Rattle.model.specs.Request.{Request, layout_for, reading_input, search_in, Accepted}
use Rattle.model.specs.Path.{shortest_paths}
use Rattle.model.specs.Rounds.{round_of, search_of}
use Rattle.model.specs.Calls.{path_length, reading_of, build_tree, first, next}
use Rattle.model.specs.Series.{Call, book, replies, run}
use Rattle.laws.proofs.BigEndian.{Bytes}
use Rattle.laws.proofs.Accepted.{accepted}
use Rattle.laws.proofs.HopKeys.{SortedHops}
use Rattle.laws.proofs.HopOrder.{hops_sorted}
use Rattle.laws.proofs.Records.{length-domains}
use Rattle.laws.proofs.AcceptedRequest.{accepted-verdict, accepted-meaning, passed-request, accepted-profile, accepted-length}
use Rattle.laws.proofs.SequenceDomains.{meaning-different, meaning-inside, meaning_first, different-places}
use Rattle.laws.proofs.ClassesApart.{ClassesApart, Holds}
use Rattle.laws.proofs.ClassesApart as Classes
use Rattle.laws.proofs.Nobodys.{Owned, NamesOwned}
use Rattle.laws.proofs.NobodysAbsent.{NobodysAbsent}
use Rattle.laws.proofs.NobodysAbsent as Absent
use Rattle.laws.proofs.Nobodys as Nobodys
use Rattle.laws.proofs.ReadsBack as Lists
use Rattle.laws.proofs.SeriesListing.{first_with, next_with, first_then_nexts, handed_out, Roomy, last_handed, last_path, reply_at}
use Rattle.laws.proofs.RoundExact.{NoneAdmissible, RoundExact}
use Rattle.laws.proofs.Quiet.{AllQuiet, all_quiet}
use Rattle.laws.proofs.Listing.{Listing, the_listing, empty_exactly, none_in_any}
use Rattle.laws.proofs.Answered.{TreeMeans, FirstMeans, NextMeans}
use Rattle.laws.proofs.Answered as Answered
use Rattle.laws.proofs.Claims as Claims
pub use Rattle.laws.proofs.SequenceRight.{SequenceRight}

-- ==== Demand 1: whatever bytes arrive

-- A call refuses bad input itself, with one of document 01's numbers: on an answer other than 0 nothing is written and every other number but the place is 0, on 0, 1 and 2
-- the place too. For all inputs of all calls.
pub refusals : AllQuiet
refusals = all_quiet

-- A profile that mixes test and live identifiers is refused: one that has an AS or node inside the reserved ranges and one outside.
pub mixed_refused : (L : Layout) (s : List ℕ) → Holds L s true → Holds L s false → profile_verdict L s ≡ Pass → ⊥
mixed_refused = Classes.mixed_refused

-- The other half: of an accepted profile of class 0 all lie inside them, of one of class 1 none does.
pub classes_apart : (L : Layout) (s : List ℕ) → profile_verdict L s ≡ Pass → ClassesApart L s
classes_apart = Classes.classes_apart

-- No AS that is nobody's, 0 or 23456, gets in: an accepted profile has none,
pub profile_owned : (L : Layout) (s : List ℕ) → profile_verdict L s ≡ Pass → (i : ℕ) → i < domain_count s → Owned (domain_at s i).asn
profile_owned = Nobodys.profile_owned

-- a list of right form names none, whichever list it is,
pub list_owned : (k : ListKind) (s : List ℕ) → form_verdict k s ≡ Pass → NamesOwned (subobjects s)
list_owned = Nobodys.list_owned

-- and an accepted request has none in its profile, in either list and in what its EXRS carry.
pub nobodys_absent : (r : Request) (sequence : List Stop) → Accepted r sequence → NobodysAbsent r
nobodys_absent = Absent.nobodys_absent

-- ==== Demand 2: domain lists and the tree

-- A list that the writer writes, for any sequence that it accepts, reads back as the same sequence, EXRS byte for byte, with its first domain as ingress.
pub reads-back
    : (profile indexes marks nodes counts exrs : List ℕ)
    → Bytes profile
    → ((i : ℕ) → get_or nodes i 0 < 2 ^ 32)
    → Bytes exrs
    → verdict_on profile ≡ Pass
    → unwritable (domains profile) indexes marks nodes counts exrs ≡ false
    → reading_of profile (get_or indexes 0 0) (written (domains profile) (stops indexes marks nodes counts exrs)) ≡ good (stops indexes marks nodes counts exrs)
reads-back = Lists.reads-back

module _ (r : Request) (sequence : List Stop) (bytes : Bytes r.profile) (right : Accepted r sequence) where
  sorted : SortedHops (hops (layout_for r) r.profile)
  sorted = hops_sorted (layout_for r) r.profile bytes (accepted (layout_for r) r.profile (accepted-profile r sequence right))

  in_search : SortedHops (search_of r sequence).hops
  unfolding search_of search_in
  in_search = sorted

  pub sequence-right : SequenceRight r sequence
  sequence-right =
      let m = accepted-meaning r sequence right in
      let R = reading_input r.profile in
      let inside = subst (λ (n : ℕ). r.ingress < n) (sym (length-domains r.profile)) (passed-request r (accepted-verdict r sequence right)).ingress in
      record {
        count = accepted-length r sequence right;
        first = meaning_first R r.ingress r.include sequence m;
        known = λ p n. subst (λ (k : ℕ). p.domain < k) (length-domains r.profile) (meaning-inside R r.ingress r.include sequence m inside p n);
        once = different-places (domains_of sequence) (meaning-different R r.ingress r.include sequence m);
      }

  -- In the backward tree each entry node carries the least total cost to the destination across the remaining domains, keeping exclusions, bandwidth and entry constraints,
  -- and is unreachable exactly when no way exists; the tree has an entry for the source and for each entry node of each later domain, no others, in order.
  pub tree-means : (room : ℕ) → TreeMeans (search_of r sequence) (build_tree r room)
  tree-means = Answered.tree-means r sequence right sorted

  -- It is the tree of the round that applies: the second, without the exclusions of X set, exactly when some exclusion has X set and no path is admissible with all of them.
  pub round_exact : RoundExact r sequence
  round_exact = Claims.round_exact r sequence bytes right

  -- ==== Demand 3: the shortest paths

  -- A path is listed exactly when it is admissible and every admissible path has at least its total; the listing ascends, with each once.
  pub listing : Listing (search_of r sequence)
  listing = the_listing (search_of r sequence) in_search

  -- First hands out the first listed path; it answers 1 exactly when no path is admissible,
  pub first_means : (room : ℕ) → path_length sequence ≤ room → FirstMeans (search_of r sequence) (first r room)
  first_means room h = Answered.first_means (search_of r sequence) in_search (round_of r sequence) (first r room) (Claims.first_exact r sequence bytes right room h)

  -- exactly when the listing is empty,
  pub listing_empty : (shortest_paths (search_of r sequence) ≡ []) ↔ NoneAdmissible (search_of r sequence)
  listing_empty = empty_exactly (search_of r sequence) in_search

  -- and then none is in any round.
  pub none_anywhere : NoneAdmissible (search_of r sequence) → (x : Round) → NoneAdmissible (search_in x r sequence)
  none_anywhere = none_in_any r sequence sorted

  -- Next hands out the least listed path greater than a given list, which need not be a path; it answers 2 exactly when none is greater.
  pub next-means
      : (room : ℕ) → path_length sequence ≤ room
      → (given : List ℕ) → length given ≡ path_length sequence → NextMeans (search_of r sequence) given (next r given room)
  next-means room h =
      Answered.next-means (search_of r sequence) in_search (round_of r sequence) (path_length sequence) (λ given. next r given room) (Claims.next_exact r sequence bytes right room h)

  -- For any list of first and next calls, with any buffers, all answers are those of document 01's book: one claim about the whole series.
  pub series-is-book : (calls : List Call) → run r [] calls ≡ book (round_of r sequence) (shortest_paths (search_of r sequence)) (path_length sequence) 0 calls
  series-is-book = Claims.series-is-book r sequence bytes right

  -- So first, then repeatedly next, with room in every buffer, hand out every listed path, each once, in ascending order, and then 2 for each call: nothing else.
  pub series-hands-out
      : 0 < length (shortest_paths (search_of r sequence))
      → (buffers : List (List ℕ)) → Roomy (path_length sequence) buffers
      → run r [] (first_then_nexts buffers) ≡ handed_out (round_of r sequence) (shortest_paths (search_of r sequence)) buffers
  series-hands-out = Claims.series-hands-out r sequence bytes right

  -- In any series a next with room, once a path was handed out, answers 2 exactly when the path last handed out is the listing's last,
  pub series-tells-end
      : (before : List Call) (buffer : List ℕ) (behind : List Call) → path_length sequence ≤ length buffer
      → 0 < length (last_handed (path_length sequence) [] (run r [] before))
      → ((reply_at (length before) (run r [] (before ++ (next_with buffer ∷ behind)))).numbers.answer ≡ 2)
      ↔ (last_handed (path_length sequence) [] (run r [] before) ≡ last_path (shortest_paths (search_of r sequence)))
  series-tells-end = Claims.series-tells-end r sequence bytes right

  -- and a first with room answers 1 exactly when no path is admissible.
  pub series-tells-none
      : (before : List Call) (buffer : List ℕ) (behind : List Call) → path_length sequence ≤ length buffer
      → ((reply_at (length before) (run r [] (before ++ (first_with buffer ∷ behind)))).numbers.answer ≡ 1) ↔ NoneAdmissible (search_of r sequence)
  series-tells-none before buffer behind room = Iff.trans (Claims.series-tells-none r sequence bytes right before buffer behind room) listing_empty

-- On a refused request each call of a series gives the refusal, and leaves its buffer.
pub series-replies : (r : Request) → Bytes r.profile → (calls : List Call) → run r [] calls ≡ replies r calls
series-replies = Claims.series-replies
