-- One pass over a whole exclude list of right form, as code makes it, for any test on X bits and names; and the tests that are made.
use Prim.Native.Nat.{ℕ, ◌≤◌, ◌<◌}
use mathlib.Core.Path.{◌≡◌, refl, sym, ap₂, subst, ◌∙◌}
use mathlib.Core.Bool.{Bool, true, false, ◌&&◌}
use mathlib.Core.List.{List}
use native.Mathlib.Omega.{arith}
use lib.ListN.{length}
use Rattle.model.specs.declared.Domain.{Domain}
use Rattle.model.specs.declared.ListKind.TheVariants.{Exclude}
use Rattle.model.specs.declared.Round.{Round}
use Rattle.model.specs.Verdict.{Pass}
use Rattle.model.specs.Subobject as M
use Rattle.model.specs.Exclusion.{counts, in_force, some_desired, takes_domain, takes_node, excluded_domain, excluded_node}
use Rattle.laws.proofs.Picks.{any-keep}
use Rattle.list_subobject.specs.declared.item.Item.{Item}
use Rattle.list_subobject.specs.Items.{named_of, Readable, ItemAt}
use Rattle.list_exclusion.specs.Tests.{some_passes}
use Rattle.list_exclusion.proofs.OnePass.{some_there, readable_there, hit, miss}
use Rattle.list_exclusion.proofs.OnePass as OnePass

module _ (q : Bool → M.Named → Bool) (s : List ℕ) where
  abbrev test : M.Subobject → Bool
  test x = q x.top x.names

  -- some subobject passes the test
  abbrev pub some_named : Bool
  some_named = some_there test Exclude s (length s) 0

  abbrev pub Undecided : ℕ → Type 0
  Undecided at = OnePass.Undecided test Exclude s (length s) 0 at

  pub undecided : M.form_verdict Exclude s ≡ Pass → Undecided 0
  unfolding M.form_verdict
  undecided e = OnePass.undecided test Exclude s (length s) 0 (omega arith) e

  module _ (at : ℕ) (u : Undecided at) where
    pub none_left : length s ≤ at → false ≡ some_named
    none_left = OnePass.none_left test Exclude s (length s) 0 at u

    module _ (h : at < length s) where
      pub readable_here : Readable s at
      readable_here = readable_there test Exclude s (length s) 0 at u h (omega arith)

      module _ (it : Item) (here : ItemAt s at it) where
        same : test (M.subobject_at s at) ≡ q it.top (named_of s it.named)
        same = ap₂ q (sym here.top) (sym here.named)

        pub decided : q it.top (named_of s it.named) ≡ true → true ≡ some_named
        decided t = hit test Exclude s (length s) 0 at u h (same ∙ t)

        pub passed : q it.top (named_of s it.named) ≡ false → Undecided it.next
        passed f = subst Undecided (sym here.next) (miss test Exclude s (length s) 0 at u h (same ∙ f))

-- a pass that looks for nothing
abbrev pub never : Bool → M.Named → Bool
never top n = false

-- ---- the tests: an exclusion counts in the round, and takes the domain or the node away

abbrev pub bars_domain : Round → Domain → Bool → M.Named → Bool
bars_domain x d top n = counts x top && takes_domain d n

abbrev pub bars_node : Round → ℕ → Bool → M.Named → Bool
bars_node x node top n = counts x top && takes_node node n

pub domain_barred : (x : Round) (d : Domain) (xs : List M.Subobject) → some_passes (bars_domain x d) xs ≡ excluded_domain (in_force x xs) d
unfolding excluded_domain in_force
domain_barred x d xs = sym (any-keep (λ (o : M.Subobject). takes_domain d o.names) (λ (o : M.Subobject). counts x o.top) xs)

pub node_barred : (x : Round) (node : ℕ) (xs : List M.Subobject) → some_passes (bars_node x node) xs ≡ excluded_node (in_force x xs) node
unfolding excluded_node in_force
node_barred x node xs = sym (any-keep (λ (o : M.Subobject). takes_node node o.names) (λ (o : M.Subobject). counts x o.top) xs)

-- an exclusion is only desired
abbrev pub is_desired : Bool → M.Named → Bool
is_desired top n = top

pub desired_passes : (xs : List M.Subobject) → some_passes is_desired xs ≡ some_desired xs
unfolding some_desired
desired_passes xs = refl
