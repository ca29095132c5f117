-- Limits, one behind the other.
use Rattle.std.proofs.Common.{◌≡◌, ℕ, Bool, true, false, length, Option, Some, None, Result, Err, refl, sym, ap, subst, ◌∙◌}
use Rattle.std.specs.Prelude.{nat_le, IsErrOf}
use Rattle.ob_tree.specs.declared.print.Print.{Print}
use Rattle.ob_tree.specs.declared.which.Which.{Which}
use Rattle.ob_tree.specs.declared.which.Which.TheVariants as which
use Rattle.ob_types.specs.declared.face.Interface.{Interface}
use Rattle.ob_obj.specs.declared.file.ObjFile.{ObjFile}
use Rattle.ob_layout.specs.LaidOut.{viewed}
use Rattle.ob_env.specs.Faces.{described}
use Rattle.ob_scheme.specs.Numbers.{nothing_named}
use Rattle.ob_scheme.specs.Procedures.{module_code}
use Rattle.ob_scheme.specs.Object.{own_words}
use Rattle.ob_scheme.proofs.Appends.{instrs_length}
use Rattle.ob_compile_trait.specs.declared.shape.Built.{Built}
use Rattle.ob_compile_model.specs.declared.fault.CompileRefusal.TheVariants as refusal
use Rattle.ob_compile_model.specs.declared.fault.CompileFault.{CompileFault}
use Rattle.ob_compile_model.specs.declared.fault.CompileFault.TheVariants as fault
use Rattle.ob_compile_model.specs.Compiling.{Compiled, within, or_first, exceeded, most_code, limit_of_code, limit_of_files, object_by, object_with, object_bytes, symbol_bytes, interface_by, prints}
use Rattle.ob_compile.specs.Steps.{short_code, Makes}

pub over : (c : Compiled Print) (o : Option Which) (w : Which) (f : CompileFault) → o ≡ Some w → f ≡ fault.Refused (refusal.Limit w) → Makes (within c o) (Err f)
over c o w f e is = subst (λ (x : CompileFault). Makes (within c o) (Err x)) (sym is) (subst (λ (p : Option Which). Makes (within c p) (Err (fault.Refused (refusal.Limit w)))) (sym e) refl)

pub over_first : (c : Compiled Print) (o more : Option Which) (w : Which) (f : CompileFault) → o ≡ Some w → f ≡ fault.Refused (refusal.Limit w) → Makes (within c (or_first o more)) (Err f)
over_first c o more w f e is = over c (or_first o more) w f (ap (λ (p : Option Which). or_first p more) e) is

pub then_more : (c : Compiled Print) (o more : Option Which) (r : Result Built CompileFault) → o ≡ None → Makes (within c more) r → Makes (within c (or_first o more)) r
then_more c o more r e h = subst (λ (p : Option Which). Makes (within c (or_first p more)) r) (sym e) h

-- ---- sizes, operands, code

pub object_is : (c : Compiled Print) (i : Interface) (f : ObjFile) → i ≡ interface_by prints c → f ≡ object_with c i → f ≡ object_by prints c
object_is c i f same is = is ∙ ap (object_with c) same

-- the same fault, whatever was wanted
pub same_err : {A B E : Type 0} (f g : E) → IsErrOf {T = A} (Err f) g → IsErrOf {T = B} (Err f) g
same_err f g h = let k : f ≡ g = cc in ap Err k

-- an object file has as many instructions as its module has lines
code_is : (c : Compiled Print) → nat_le (length (object_by prints c).body.code) most_code ≡ short_code c
code_is c =
    let map = viewed (described c.against) c.tree in
    ap (λ (n : ℕ). nat_le n most_code) (instrs_length (nothing_named (own_words map c.tree)) (module_code map c.tree))

pub long_code : (c : Compiled Print) (x : CompileFault) → short_code c ≡ false → x ≡ fault.Refused (refusal.Limit which.Code) → Makes (within c (limit_of_code prints c)) (Err x)
long_code c x long is =
    over_first c (exceeded (nat_le (length (object_by prints c).body.code) most_code) which.Code) (limit_of_files (object_bytes prints c) (symbol_bytes prints c)) which.Code x (ap (λ (b : Bool). exceeded b which.Code) (code_is c ∙ long)) is

pub brief_code : (c : Compiled Print) (r : Result Built CompileFault) → short_code c ≡ true → Makes (within c (limit_of_files (object_bytes prints c) (symbol_bytes prints c))) r → Makes (within c (limit_of_code prints c)) r
brief_code c r short h =
    then_more c (exceeded (nat_le (length (object_by prints c).body.code) most_code) which.Code) (limit_of_files (object_bytes prints c) (symbol_bytes prints c)) r (ap (λ (b : Bool). exceeded b which.Code) (code_is c ∙ short)) h
