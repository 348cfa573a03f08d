-- Exclusions of two lists together: they take away what either of them does.
use Prim.Native.Nat.{ℕ}
use mathlib.Core.Path.{◌≡◌, sym, ap, ◌∙◌}
use mathlib.Core.Bool.{Bool, true, false, ◌||◌}
use mathlib.Core.List.{List, ◌++◌}
use Rattle.model.specs.declared.Domain.{Domain}
use Rattle.model.specs.Subobject.{Subobject}
use Rattle.model.specs.Exclusion.{some_desired, takes_domain, takes_node, excluded_domain, excluded_node}
use Rattle.laws.proofs.Lists.{any_append}

pub domain_either : (d : Domain) (xs ys : List Subobject) → excluded_domain (xs ++ ys) d ≡ (excluded_domain xs d || excluded_domain ys d)
unfolding excluded_domain
domain_either d xs ys = any_append (λ (s : Subobject). takes_domain d s.names) xs ys

pub node_either : (node : ℕ) (xs ys : List Subobject) → excluded_node (xs ++ ys) node ≡ (excluded_node xs node || excluded_node ys node)
unfolding excluded_node
node_either node xs ys = any_append (λ (s : Subobject). takes_node node s.names) xs ys

pub desired_either : (xs ys : List Subobject) → some_desired (xs ++ ys) ≡ (some_desired xs || some_desired ys)
unfolding some_desired
desired_either xs ys = any_append (λ (s : Subobject). s.top) xs ys

-- the first does, or the second decides
pub by_first : (a b : Bool) {c : Bool} → c ≡ (a || b) → a ≡ true → true ≡ c
by_first a b e t = sym (e ∙ ap (λ (x : Bool). x || b) t)

pub by_second : (a b : Bool) {c : Bool} → c ≡ (a || b) → a ≡ false → b ≡ c
by_second a b e f = sym (e ∙ ap (λ (x : Bool). x || b) f)
