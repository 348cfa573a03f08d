-- The tally is at most the number of hop records, and twice that over two rounds: a hop record lies between the domains of one leg at most, since the legs
-- leave different domains. By recursion on the legs, the records of the first leg taken away for the others.
use mathlib.Core.Path.{◌≡◌, refl, sym, ap, ap₂, ◌∙◌}
use mathlib.Core.Bool.{Bool, true, false, not, ◌&&◌}
use mathlib.Core.List.Memᴰ
use mathlib.Core.List.{List, [], ◌∷◌, map, Memᴰ}
use Prim.Native.Nat.{ℕ, suc, ◌+◌, ◌*◌, ◌≤◌}
use native.Mathlib.Omega.{arith}
use lib.ListN.{length}
use borrow.Author.Tests.{not-true}
use Rattle.model.specs.declared.Hop.{Hop}
use Rattle.model.specs.declared.Round.{Round}
use Rattle.model.specs.declared.Round.TheVariants.{First, Second}
use Rattle.model.specs.Lists.{keep_if, keep, among, all_different, sum}
use Rattle.model.specs.Profile.{hop_count, hop_at, hops, between}
use Rattle.model.specs.Sequence.{Stop, domains_of}
use Rattle.model.specs.Request.{Request, layout_for, reading_input, Accepted, Search, search_in}
use Rattle.model.specs.Path.{Leg, legs}
use Rattle.model.specs.Tree.{tally}
use Rattle.model.specs.Rounds.{round_of, search_of, over_rounds}
use Rattle.laws.proofs.Tests.{and_both, clash, refuted}
use Rattle.laws.proofs.Lists.{keep_agree, mem-map}
use Rattle.laws.proofs.Picks.{keep-keep}
use Rattle.laws.proofs.ProfileLists.{mem_among, length-map-count_from}
use Rattle.laws.proofs.HopKeys.{between-both}
use Rattle.laws.proofs.AcceptedRequest.{accepted-meaning}
use Rattle.laws.proofs.SequenceDomains.{meaning-different}

-- ---- what passes a test and what fails it

module _ {A : Type 0} where
  -- together they are the whole list
  keep_parts : (p : A → Bool) (xs : List A) → length (keep p xs) + length (keep (λ (x : A). not (p x)) xs) ≡ length xs
  unfolding keep
  keep_parts p [] = refl
  keep_parts p (x ∷ xs) = go (p x) (keep_parts p xs)
    where
      go
          : (b : Bool)
          → length (keep p xs) + length (keep (λ (y : A). not (p y)) xs) ≡ length xs
          → length (keep_if b x (keep p xs)) + length (keep_if (not b) x (keep (λ (y : A). not (p y)) xs)) ≡ suc (length xs)
      go true e = omega arith
      go false e = omega arith

  -- where two tests never both hold, what fails the one has all that passes the other
  keep_apart : (p q : A → Bool) (xs : List A) → ((x : A) → q x ≡ true → p x ≡ false) → keep q (keep (λ (x : A). not (p x)) xs) ≡ keep q xs
  keep_apart p q xs apart = keep-keep q (λ (x : A). not (p x)) xs ∙ keep_agree (λ (x : A). not (p x) && q x) q xs (λ x m. go x (p x) (q x) refl refl)
    where
      go : (x : A) (b c : Bool) → p x ≡ b → q x ≡ c → not b && c ≡ c
      go x false c e f = refl
      go x true false e f = refl
      go x true true e f = clash e (apart x f)

-- ---- the legs

abbrev pub from_of : Leg → ℕ
from_of leg = leg.from

-- the legs leave the domains of the sequence
pub legs_leave : (sequence : List Stop) → map from_of (legs sequence) ≡ domains_of sequence
unfolding legs
legs_leave [] = refl
legs_leave (d ∷ []) = refl
legs_leave (d ∷ e ∷ rest) = ap {B = List ℕ} (λ (ds : List ℕ). d.domain ∷ ds) (legs_leave (e ∷ rest))

-- a hop record lies between the domains of a leg
abbrev on_leg : Leg → Hop → Bool
on_leg leg h = between leg.from leg.to h

abbrev tally_of : List Hop → List Leg → ℕ
tally_of hs ls = sum (map (λ (leg : Leg). length (keep (on_leg leg) hs)) ls)

-- no record lies on a leg and on one of the others
abbrev Apart : Leg → List Leg → Type 0
Apart leg others = (l : Leg) → Memᴰ l others → (h : Hop) → on_leg l h ≡ true → on_leg leg h ≡ false

legs_apart : (leg : Leg) (others : List Leg) → among leg.from (map from_of others) ≡ false → Apart leg others
legs_apart leg others new l m h t =
    refuted (on_leg leg h)
    (λ u.
    let same : l.from ≡ leg.from = sym (between-both l.from l.to h t).0 ∙ (between-both leg.from leg.to h u).0 in
    clash (mem_among leg.from (Memᴰ.cast (sym same) (mem-map from_of m))) new)

-- what the others count, they count without its records
others-count : (hs : List Hop) (leg : Leg) (others : List Leg) → Apart leg others → tally_of hs others ≡ tally_of (keep (λ (h : Hop). not (on_leg leg h)) hs) others
unfolding sum
others-count hs leg [] apart = refl
others-count hs leg (l ∷ others) apart =
    ap₂ (λ (x y : ℕ). x + y)
    (ap length (sym (keep_apart (on_leg leg) (on_leg l) hs (apart l (Memᴰ.head refl)))))
    (others-count hs leg others (λ k m. apart k (Memᴰ.tail m)))

tally_of_legs : (hs : List Hop) (ls : List Leg) → all_different (map from_of ls) ≡ true → tally_of hs ls ≤ length hs
unfolding sum all_different
tally_of_legs hs [] t = omega arith
tally_of_legs hs (leg ∷ others) t =
    let b = and_both (not (among leg.from (map from_of others))) (all_different (map from_of others)) t in
    let without = others-count hs leg others (legs_apart leg others (not-true (among leg.from (map from_of others)) b.0)) in
    let fewer = tally_of_legs (keep (λ (h : Hop). not (on_leg leg h)) hs) others b.1 in
    let parts = keep_parts (on_leg leg) hs in
    omega arith

-- ---- a search

-- over a sequence of different domains the tally is at most the number of hop records
pub tally_of_search : (S : Search) → all_different (domains_of S.sequence) ≡ true → tally S ≤ length S.hops
unfolding tally
tally_of_search S t = tally_of_legs S.hops (legs S.sequence) (ap all_different (legs_leave S.sequence) ∙ t)

-- ---- the law

pub record TallyMost (r : Request) (sequence : List Stop) : Type 0 where
  -- a round counts at most the hop records of the profile
  pub one_round : (x : Round) → tally (search_in x r sequence) ≤ hop_count r.profile
  -- and so does a request where the first applies
  pub in_first : round_of r sequence ≡ First → over_rounds (round_of r sequence) (tally (search_of r sequence)) ≤ hop_count r.profile
  -- else both rounds count
  pub in_second
      : round_of r sequence ≡ Second
      → over_rounds (round_of r sequence) (tally (search_of r sequence)) ≡ tally (search_in First r sequence) + tally (search_in Second r sequence)
  -- in any case it is at most twice the hop count
  pub most : over_rounds (round_of r sequence) (tally (search_of r sequence)) ≤ 2 * hop_count r.profile

over_rounds_most : (x : Round) (n m : ℕ) → n ≤ m → over_rounds x n ≤ 2 * m
over_rounds_most First n m h = omega arith
over_rounds_most Second n m h = omega arith

module _ (r : Request) (sequence : List Stop) (yes : Accepted r sequence) where
  one_round : (x : Round) → tally (search_in x r sequence) ≤ hop_count r.profile
  unfolding search_in hops
  one_round x =
      let different = meaning-different (reading_input r.profile) r.ingress r.include sequence (accepted-meaning r sequence yes) in
      let most = tally_of_search (search_in x r sequence) different in
      omega (arith, length-map-count_from (hop_at (layout_for r) r.profile) 0 (hop_count r.profile))

  -- both rounds count the same
  same-tally : (x y : Round) → tally (search_in x r sequence) ≡ tally (search_in y r sequence)
  unfolding search_in tally
  same-tally x y = refl

  pub tally_most : TallyMost r sequence
  unfolding search_of
  tally_most =
      record {
        one_round = one_round;
        in_first = λ e. rw e (one_round First);
        in_second = λ e. rw e (ap (λ (n : ℕ). n + tally (search_in Second r sequence)) (same-tally Second First));
        most = over_rounds_most (round_of r sequence) (tally (search_of r sequence)) (hop_count r.profile) (one_round (round_of r sequence));
      }
