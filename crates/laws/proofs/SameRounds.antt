-- Which rounds apply to two requests that find the same in any one round. Where only one of them has an exclusion of X set and no path is admissible in the
-- first round, the rounds differ; then all that counts for the other is in force in both rounds, so there is no path in either.
use mathlib.Core.Path.{◌≡◌, refl, sym, ap, ◌∙◌}
use mathlib.Core.Logic.{◌⊎◌, inl, inr, ⊎_elim}
use mathlib.Core.Bool.{Bool, true, false, ◌&&◌, false≢true}
use mathlib.Core.List.{List, [], ◌∷◌}
use lib.ListN.{length}
use Rattle.model.specs.declared.Round.{Round}
use Rattle.model.specs.declared.Round.TheVariants.{First}
use Rattle.model.specs.Lists.{is_empty}
use Rattle.model.specs.Sequence.{Stop}
use Rattle.model.specs.Exclusion.{some_desired}
use Rattle.model.specs.Request.{Request, all_exclusions, search_in}
use Rattle.model.specs.Path.{admissible, cheapest, shortest_paths}
use Rattle.model.specs.Rounds.{round_if, round_of, search_of}
use Rattle.laws.proofs.Cheapest.{cheapest_nil}
use Rattle.laws.proofs.Hits.{SameFound}
use Rattle.laws.proofs.SameAnswers.{SameRound}

empty_nil : {A : Type 0} (xs : List A) → is_empty xs ≡ true → xs ≡ []
empty_nil [] e = refl
empty_nil (x ∷ xs) e = absurd (false≢true e)

-- `Same` says that all that hits is in force in both rounds: so it is where one of the two has no exclusion of X set
module _
    (r r' : Request) (sequence sequence' : List Stop) (long : length sequence ≡ length sequence') (Same : Type 0)
    (in_rounds : (x y : Round) → (x ≡ y) ⊎ Same → SameFound (search_in x r sequence) (search_in y r' sequence'))
    (clear : some_desired (all_exclusions r.exclude sequence) ≡ false → Same)
    (clear' : some_desired (all_exclusions r'.exclude sequence') ≡ false → Same) where
  -- whether the first round finds nothing
  first_alike : is_empty (admissible (search_in First r sequence)) ≡ is_empty (admissible (search_in First r' sequence'))
  first_alike = ap is_empty (in_rounds First First (inl refl)).admissible

  same-clear
      : some_desired (all_exclusions r.exclude sequence) ≡ some_desired (all_exclusions r'.exclude sequence')
      → round_of r sequence ≡ round_of r' sequence'
  unfolding round_of
  same-clear e = λ i. round_if (e i && first_alike i)

  same_or_none : (round_of r sequence ≡ round_of r' sequence') ⊎ ((is_empty (admissible (search_in First r sequence)) ≡ true) × Same)
  unfolding round_of
  same_or_none =
      go (some_desired (all_exclusions r.exclude sequence)) (some_desired (all_exclusions r'.exclude sequence'))
      (is_empty (admissible (search_in First r sequence)))
      (is_empty (admissible (search_in First r' sequence')))
      refl
      refl
      refl
      first_alike
    where
      go
          : (d d' n n' : Bool)
          → some_desired (all_exclusions r.exclude sequence) ≡ d
          → some_desired (all_exclusions r'.exclude sequence') ≡ d'
          → is_empty (admissible (search_in First r sequence)) ≡ n
          → n ≡ n'
          → (round_if (d && n) ≡ round_if (d' && n')) ⊎ ((is_empty (admissible (search_in First r sequence)) ≡ true) × Same)
      go true true n n' e e' t q = inl (ap round_if q)
      go false false n n' e e' t q = inl refl
      go true false true n' e e' t q = inr (t, clear' e')
      go true false false n' e e' t q = inl refl
      go false true n true e e' t q = inr (t ∙ q, clear e)
      go false true n false e e' t q = inl refl

  pub same-round : SameRound r r' sequence sequence'
  unfolding search_of shortest_paths
  same-round =
      ⊎_elim
      (λ (e : round_of r sequence ≡ round_of r' sequence').
      record { long = long; found = in_rounds (round_of r sequence) (round_of r' sequence') (inl e); round = inl e; clear = same-clear })
      (λ (n : (is_empty (admissible (search_in First r sequence)) ≡ true) × Same).
      let between = in_rounds (round_of r sequence) (round_of r' sequence') (inr n.1) in
      record {
        long = long;
        found = between;
        round =
            inr
            (ap cheapest
            (between.admissible
            ∙ sym (in_rounds First (round_of r' sequence') (inr n.1)).admissible
            ∙ empty_nil (admissible (search_in First r sequence)) n.0)
            ∙ cheapest_nil);
        clear = same-clear;
      })
      same_or_none
