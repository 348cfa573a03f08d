-- What a call for a path gives by value where there is no path and where there is one: from the laws that an answer goes by the first path alone.
use mathlib.Core.Path.{◌≡◌, refl, sym, ap, ◌∙◌, subst}
use mathlib.Core.Bool.{Bool, true, false, not}
use mathlib.Core.List.{List, head?}
use mathlib.Core.Option.{none}
use Prim.Native.Nat.{ℕ, suc, ◌≤◌, ◌<◌}
use native.Mathlib.Omega.{arith}
use lib.Dec.{ltb}
use lib.Ieee.{Float, binary32, to_bits, is_nan}
use lib.ListN.{take, replicate}
use Rattle.std.specs.Prelude.{Ok}
use Rattle.model.specs.Lists.{over}
use Rattle.model.specs.declared.Round.{Round}
use Rattle.model.specs.declared.PathAnswer.{PathAnswer}
use Rattle.model.specs.declared.PathAnswer.TheVariants.{Found}
use Rattle.model.specs.Floats.{in_range, float_of}
use Rattle.model.specs.Request.{Search}
use Rattle.model.specs.Path.{Route, shortest_paths}
use Rattle.model.specs.Answers.{done4, plain4, numbers_of_path}
use Rattle.model.specs.Calls.{Outcome, first_of, greater_than}
use Rattle.laws.proofs.Tests.{and_both}
use Rattle.laws.proofs.Split.{answer_some, answer_none}
use Rattle.path_answers.specs.declared.FoundPath.{FoundPath}
use Rattle.path_answers.specs.Numbers.{Real}
use Rattle.path_answers.specs.SearchResult.{ResultPath}
use Rattle.path_answers.specs.PathReply.{none_answer, none_number, Replied}

none_numbers : (again : Bool) → numbers_of_path (Ok (none_answer again)) ≡ plain4 (none_number again)
none_numbers true = refl
none_numbers false = refl

none_real : (again : Bool) → Real (Ok (none_answer again))
none_real true n x round e = absurd cc
none_real false n x round e = absurd cc

pub none-by
    : (round : Round) (again : Bool) (answer : PathAnswer) (ps : List Route) (room : ℕ) → answer ≡ none_answer again → head? ps ≡ none
    → Replied (first_of round (none_number again) ps) room (record { answer = answer; count = 0; path = replicate 17 0 })
unfolding over
none-by round again answer ps room is e =
    let o = answer_none round (none_number again) ps e in
    record {
      numbers_are = ap (λ (x : PathAnswer). numbers_of_path (Ok x)) is ∙ none_numbers again ∙ sym (ap (λ (x : Outcome ℕ). x.numbers) o);
      written_is = sym (ap (λ (x : Outcome ℕ). x.written) o);
      cells_are = sym (ap (λ (x : Outcome ℕ). over x.written (replicate 17 0)) o);
      few = omega arith;
      fits = omega arith;
      long = refl;
      real = subst (λ (x : PathAnswer). Real (Ok x)) (sym is) (none_real again);
    }

no_nan : (x : Float) → in_range x ≡ true → is_nan x ≡ false
unfolding in_range
no_nan x t = go (is_nan x) (and_both (not (is_nan x)) (ltb (to_bits binary32 x) 0x7f800000) t).0
  where
    go : (b : Bool) → not b ≡ true → b ≡ false
    go true e = sym e
    go false e = refl

found_real : (m : ℕ) (x : Float) (a : Round) → is_nan x ≡ false → Real (Ok (Found m x a))
found_real m x a t n y b e = let same : y ≡ x = cc in ap is_nan same ∙ t

pub found-by
    : (number : ℕ) (round : Round) (S : Search) (given : List ℕ) (count count' room : ℕ) (f : FoundPath) (x : Float)
    → ResultPath S given (suc count) f → count < 17 → suc count ≤ room → count' ≡ suc count → x ≡ float_of f.total → in_range x ≡ true
    → Replied (first_of round number (greater_than given (shortest_paths S))) room (record { answer = Found f.total x round; count = count'; path = f.addresses })
found-by number round S given count count' room f x p few fits is float right =
    let o = answer_some round number (greater_than given (shortest_paths S)) p.first in
    record {
      numbers_are =
          (λ j. done4 f.total (to_bits binary32 (float j)) round)
          ∙ (λ j. done4 (sym p.total-is j) (to_bits binary32 (float_of (sym p.total-is j))) round)
          ∙ sym (ap (λ (y : Outcome ℕ). y.numbers) o);
      written_is = ap (λ (n : ℕ). take n f.addresses) is ∙ sym p.addresses_are ∙ sym (ap (λ (y : Outcome ℕ). y.written) o);
      cells_are = p.cells_are ∙ sym (ap (λ (y : Outcome ℕ). over y.written (replicate 17 0)) o);
      few = omega arith;
      fits = omega arith;
      long = p.cells;
      real = found_real f.total x round (no_nan x right);
    }
