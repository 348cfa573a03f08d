-- The checks of `read_include` before the meaning of the list, one after the other. By putting each verdict in its place.
use mathlib.Core.Path.{◌≡◌}
use mathlib.Core.List.{List}
use Prim.Native.Nat.{ℕ, ◌≤◌, ◌<◌}
use lib.ListN.{length}
use lib.Dec.{leb, ltb}
use Rattle.model.specs.declared.ListKind.TheVariants.{Include}
use Rattle.model.specs.Verdict.{Pass}
use Rattle.model.specs.Profile.{domain_count, verdict_on}
use Rattle.model.specs.Subobject.{form_verdict}
use Rattle.model.specs.Request.{ingress_verdict, size_verdict}
use borrow.Author.Tests.{leb-false, ltb-false}
use Rattle.laws.proofs.Turns.{and_then_pass, refuse_if_pass}
use Rattle.list_reader.specs.ReadInclude.{read_verdict}

-- all checks passed: what each says
pub record Passed (P : List ℕ) (i : ℕ) (L : List ℕ) : Type 0 where
  pub profile : verdict_on P ≡ Pass
  pub ingress : i < domain_count P
  pub size : length L ≤ 1024
  pub form : form_verdict Include L ≡ Pass

pub passed : (P : List ℕ) (i : ℕ) (L : List ℕ) → read_verdict P i L ≡ Pass → Passed P i L
passed P i L e =
    let three = (and_then_pass _ (form_verdict Include L)).0 e in
    let two = (and_then_pass _ (size_verdict L 0)).0 three.0 in
    let one = (and_then_pass (verdict_on P) (ingress_verdict P i)).0 two.0 in
    record {
      profile = one.0;
      ingress = leb-false (domain_count P) i ((refuse_if_pass (leb (domain_count P) i) 20 0).0 one.1);
      size = ltb-false 1024 (length L) ((refuse_if_pass (ltb 1024 (length L)) 22 0).0 two.1);
      form = three.1;
    }
