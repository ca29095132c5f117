-- What the read of a source gives.
use Rattle.std.proofs.Common.{◌≡◌, ℕ, ◌<◌, ◌≤◌, Bool, true, false, leb, List, length, Option, Some, None, Result, Ok, Err, refl, sym, ap, subst, ◌∙◌, arith}
use Rattle.std.specs.Prelude.{Vec}
use Rattle.std.specs.declared.alloc.Global.{Global}
use Rattle.ob_format.specs.Exact.{le_decides}
use Rattle.ob_tree.specs.declared.print.Print.{Print}
use Rattle.ob_io.specs.Io.{Finds}
use Rattle.ob_io.specs.declared.traits.FolderFault.{FolderFault}
use Rattle.ob_io.specs.declared.traits.FolderFault.TheVariants as folder
use Rattle.ob_parse_grammar.specs.TextReading.{reading}
use Rattle.ob_env_walk.specs.Walk.{symbol_entry}
use Rattle.ob_compile_trait.specs.declared.shape.Built.{Built}
use Rattle.ob_compile_model.specs.declared.fault.CompileRefusal.TheVariants as refusal
use Rattle.ob_compile_model.specs.declared.fault.CompileFault.{CompileFault}
use Rattle.ob_compile_model.specs.declared.fault.CompileFault.TheVariants as fault
use Rattle.ob_compile_model.specs.Compiling.{Refusal, Long, Compiled, compiled, of_short, of_reading, prints}
use Rattle.ob_compile_trait.specs.Contract.{Compiles}
use Rattle.ob_compile.specs.Steps.{Sources}

short : (b : Bool) → b ≡ true → (r : Result (Compiled Print) (Refusal Print)) → of_short b r ≡ r
short true e r = refl
short false e r = absurd cc

long : (b : Bool) → (b ≡ true → ⊥) → (r : Result (Compiled Print) (Refusal Print)) → of_short b r ≡ Err Long
long true e r = absurd (e refl)
long false e r = refl

pub none_found : (o : Option (List ℕ)) (x : Option (Vec ℕ Global)) → x ≡ None → Finds o 1048576 (Ok x) → Sources o (Err (fault.Refused refusal.NoSource))
unfolding compiled
none_found None x is f = λ entry. refl
none_found (Some bytes) x is f = absurd (subst (λ (y : Option (Vec ℕ Global)). Finds (Some bytes) 1048576 (Ok y)) is f)

pub some_found : (o : Option (List ℕ)) (x : Option (Vec ℕ Global)) (v : Vec ℕ Global) → x ≡ Some v → Finds o 1048576 (Ok x) → Sources o (Ok v)
unfolding compiled
some_found None x v is f = absurd (subst (λ (y : Option (Vec ℕ Global)). Finds None 1048576 (Ok y)) is f)
some_found (Some bytes) x v is f = λ entry.
    let g : Finds (Some bytes) 1048576 (Ok (Some v)) = subst (λ (y : Option (Vec ℕ Global)). Finds (Some bytes) 1048576 (Ok y)) is f in
    short (leb (length bytes) 1048576) ((le_decides (length bytes) 1048576).1 g.1) (of_reading prints entry (reading bytes)) ∙ ap (λ (l : List ℕ). of_reading prints entry (reading l)) (sym g.0)

pub long_found : (o : Option (List ℕ)) (e : FolderFault) → e ≡ folder.Long → Finds o 1048576 (Err e) → Sources o (Err (fault.Refused refusal.Long))
unfolding compiled
long_found None e is f = absurd (subst (λ (y : FolderFault). Finds None 1048576 (Err y)) is f)
long_found (Some bytes) e is f = λ entry.
    let g : 1048576 < length bytes = subst (λ (y : FolderFault). Finds (Some bytes) 1048576 (Err y)) is f in
    let l = long (leb (length bytes) 1048576) (λ t. let h : length bytes ≤ 1048576 = (le_decides (length bytes) 1048576).0 t in absurd (omega (arith, g, h))) (of_reading prints entry (reading bytes)) in
    subst (λ (a : Result (Compiled Print) (Refusal Print)). Compiles a (Err (fault.Refused refusal.Long))) (sym l) refl

-- what the text gives is what its file gives
pub then_text : (fs gs : List ℕ → Option (List ℕ)) (file : Option (List ℕ)) (text : Vec ℕ Global) (l : List ℕ) (r : Result Built CompileFault) → gs ≡ fs → l ≡ text.items → Sources file (Ok text) → Compiles (of_reading prints (symbol_entry gs) (reading l)) r → Compiles (compiled prints (symbol_entry fs) file) r
then_text fs gs file text l r same is source h =
    subst (λ (a : Result (Compiled Print) (Refusal Print)). Compiles a r) (sym (source (symbol_entry fs)))
    (subst (λ (k : List ℕ). Compiles (of_reading prints (symbol_entry fs) (reading k)) r) is
    (subst (λ (hs : List ℕ → Option (List ℕ)). Compiles (of_reading prints (symbol_entry hs) (reading l)) r) same h))
