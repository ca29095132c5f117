-- From a tree to what its walk comes to.
use Rattle.std.proofs.Common.{◌≡◌, ℕ, ◌<◌, ◌≤◌, Bool, true, false, leb, List, Result, Ok, Err, refl, sym, ap, subst, arith}
use Rattle.std.specs.Prelude.{IsErrOf}
use Rattle.ob_format.specs.Exact.{le_decides}
use Rattle.ob_tree.specs.declared.print.Print.{Print}
use Rattle.ob_tree.specs.declared.which.Which.TheVariants as which
use Rattle.ob_tree.specs.declared.decl.Module.{Module as Tree}
use Rattle.ob_types.specs.declared.face.Interface.{Interface}
use Rattle.ob_parse_grammar.specs.TextReading.{NoModule}
use Rattle.ob_env.specs.Faces.{faces_of}
use Rattle.ob_env.specs.Building.{stands_as}
use Rattle.ob_env_walk.specs.Walk.{Entry, Walked, Left, walk}
use Rattle.ob_env_walk.specs.Answer.{after_walk}
use Rattle.ob_compile_trait.specs.declared.shape.Built.{Built}
use Rattle.ob_compile_model.specs.declared.fault.CompileRefusal.TheVariants as refusal
use Rattle.ob_compile_model.specs.declared.fault.CompileFault.{CompileFault}
use Rattle.ob_compile_model.specs.declared.fault.CompileFault.TheVariants as fault
use Rattle.ob_compile_model.specs.Compiling.{Refusal, Compiled, of_few, of_tree, of_reading, of_reached, of_standing, prints}
use Rattle.ob_compile_trait.specs.Contract.{Compiles}
use Rattle.ob_compile.specs.Steps.{stood, Makes}
use Rattle.ob_compile.proofs.Answered.{made_compiles}

pub whole : (tree : Tree) (w : Walked Print) (is : List Interface) (r : Result Built CompileFault) → w ≡ Left (faces_of is) → Makes (of_standing prints tree (stands_as is)) r → Compiles (of_reached prints tree (after_walk stood w)) r
whole tree w is r e h = subst (λ (v : Walked Print). Compiles (of_reached prints tree (after_walk stood v)) r) (sym e) (made_compiles (of_standing prints tree (stands_as is)) r h)

or_fault : CompileFault → Result Built CompileFault → CompileFault
or_fault d (Ok b) = d
or_fault d (Err f) = f

pub same_fault : (a b : CompileFault) → IsErrOf {T = Built} (Err a) b → a ≡ b
unfolding or_fault
same_fault a b e = ap (or_fault a) e

-- ---- the number of imports

few_imports : (n : ℕ) (a : Result (Compiled Print) (Refusal Print)) (r : Result Built CompileFault) → n ≤ 64 → Compiles a r → Compiles (of_few (leb n 64) a) r
few_imports n a r l h = subst (λ (b : Bool). Compiles (of_few b a) r) (sym ((le_decides n 64).1 l)) h

not_so : (b : Bool) → (b ≡ true → ⊥) → b ≡ false
not_so true h = absurd (h refl)
not_so false h = refl

pub many_imports : (n : ℕ) (a : Result (Compiled Print) (Refusal Print)) (f : CompileFault) → 64 < n → f ≡ fault.Refused (refusal.Limit which.Imports) → Compiles (of_few (leb n 64) a) (Err f)
many_imports n a f l is =
    let many : leb n 64 ≡ false = not_so (leb n 64) (λ t. let h : n ≤ 64 = (le_decides n 64).0 t in absurd (omega (arith, l, h))) in
    subst (λ (x : CompileFault). Compiles (of_few (leb n 64) a) (Err x)) (sym is)
    (subst (λ (b : Bool). Compiles (of_few b a) (Err (fault.Refused (refusal.Limit which.Imports)))) (sym many) refl)

pub with_imports : (tree : Tree) (entry : List ℕ → Entry Print) (n : ℕ) (ms ns : List (List ℕ)) (r : Result Built CompileFault) → n ≤ 64 → ns ≡ ms → Compiles (of_reached prints tree (after_walk stood (walk entry tree.name.name ns))) r → Compiles (of_few (leb n 64) (of_reached prints tree (after_walk stood (walk entry tree.name.name ms)))) r
with_imports tree entry n ms ns r l e h =
    few_imports n (of_reached prints tree (after_walk stood (walk entry tree.name.name ms))) r l
    (subst (λ (is : List (List ℕ)). Compiles (of_reached prints tree (after_walk stood (walk entry tree.name.name is))) r) e h)

-- ---- the reading

pub read_as : (entry : List ℕ → Entry Print) (read : Result Tree NoModule) (tree : Tree) (r : Result Built CompileFault) → read ≡ Ok tree → Compiles (of_tree prints entry tree) r → Compiles (of_reading prints entry read) r
read_as entry read tree r e h = subst (λ (x : Result Tree NoModule). Compiles (of_reading prints entry x) r) (sym e) h
