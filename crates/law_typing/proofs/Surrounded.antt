-- Where the map of types is formed and steady, what is known around is so in the program.
use Rattle.std.proofs.Common.{◌≡◌, refl, ap, ◌∙◌, ℕ, List, ◌∷◌, Option, Some, None, false}
use Rattle.std.specs.Prelude.{◌&&◌, bytes_eq, codes}
use Rattle.ob_tree.specs.declared.names.QName.{QName}
use Rattle.ob_tree.specs.declared.ident.Mark.{Mark}
use Rattle.ob_types.specs.declared.types.TypeRef.{TypeRef}
use Rattle.ob_types.specs.declared.types.Signature.{Signature}
use Rattle.ob_types.specs.declared.desc.Desc.{Desc}
use Rattle.ob_types.specs.declared.desc.Desc.TheVariants as desc
use Rattle.ob_types.specs.declared.typed.Variable.TheVariants as variable
use Rattle.ob_types.specs.declared.desc.Method.{Method}
use Rattle.ob_meaning.specs.Values.{Program, Form, Fields, ArrayForm, RecordForm, form_in, record_in, Formals, Held}
use Rattle.law_simulation_relation.specs.Relation.{Sub, itself, extended, opened}
use Rattle.law_simulation_relation.specs.Typed.{IsRecordForm, IsRecordType}
use Rattle.ob_rules.specs.Shapes.{AMethod, same_name, base_type, base_record, record_if, member}
use Rattle.ob_rules.specs.Names.{Around, map_of, type_desc, out_string, is_out}
use Rattle.law_typing.specs.Known.{VariableIs, ProcedureIs, SuperIs, IsScoped}
use Rattle.law_typing.specs.Forms.{SignatureIs}
use Rattle.law_typing.specs.Surrounded.{IsSurrounded}
use Rattle.law_typing_forms.proofs.Shapes as shapes
use Rattle.law_typing_forms.proofs.Members as members
use Rattle.law_typing_forms.proofs.Sorts.{form_ok}
use Rattle.law_typing.proofs.Basics.{not_true, closed_form}
use Rattle.law_typing.proofs.Basis.{forms_are, method_is, signature_is}

module _ (program : Program) (Has : Formals → QName → Type 0) (unit : List ℕ) (held : List Held) (result : Option TypeRef) (u : Around) (s : IsSurrounded program Has unit held result u) where
  -- the map has what an imported module shows
  shown_in : (q : QName) (d : Desc) → is_out q.«module» ≡ false → bytes_eq q.«module» u.unit ≡ false → u.shown q ≡ Some d → map_of u q ≡ Some d
  shown_in q d a b e =
      let o : same_name q out_string ≡ false = ap (λ x. x && bytes_eq q.object (codes "String(1")) a in
      ap (λ x. type_desc x (same_name q out_string) u q) b ∙ ap (λ x. type_desc false x u q) o ∙ e

  variable_shown : (q : QName) (m : Mark) (t : TypeRef) → is_out q.«module» ≡ false → bytes_eq q.«module» u.unit ≡ false → u.shown q ≡ Some (desc.Var m t) → VariableIs program Has unit held result (map_of u) (variable.Module q.«module» q.object) t
  variable_shown q m t a b e =
      let i = shown_in q (desc.Var m t) a b e in
      let v = s.formed.variables q m t i in
      record { fits = (v.there, v.form); declared = ((s.formed.declared q (desc.Var m t) i).0, (s.steady.held q (desc.Var m t) i).0); passed = closed_form program (form_in program t) (form_ok (map_of u) program s.formed s.steady t (s.steady.held q (desc.Var m t) i).0 (s.steady.keeps q (desc.Var m t) i)); var_record = λ e. not_true e }

  procedure_shown : (q : QName) (g : Signature) → is_out q.«module» ≡ false → bytes_eq q.«module» u.unit ≡ false → u.shown q ≡ Some (desc.Proc g) → ProcedureIs program Has unit held result (map_of u) q g
  procedure_shown q g a b e =
      let i = shown_in q (desc.Proc g) a b e in
      let p = s.formed.proper q g i in
      let d : SignatureIs program (map_of u) g = signature_is (map_of u) program s.formed s.steady g (s.formed.declared q (desc.Proc g) i) (s.steady.held q (desc.Proc g) i) (s.steady.keeps q (desc.Proc g) i) in
      record {
        p = p.p;
        found = p.found;
        result_is = p.result;
        parameters = p.parameters;
        signature = d;
        own = λ k. s.values q g p d k;
      }

  -- SUPER CALLS

  sub_record : (t v : Form) → IsRecordForm t → Sub t v → IsRecordForm v
  sub_record _ _ h itself = h
  sub_record _ _ h (extended more gs {line} {fs}) = (line, refl)
  sub_record _ _ h (opened n) = absurd (apart h.1)
    where
      apart : {n : ℕ} {t : Form} {line : List QName} {fs : Fields} → ArrayForm n t ≡ RecordForm line fs → ⊥
      apart e = absurd cc

  base_is : (q b : QName) → base_record (map_of u) q ≡ Some b → IsRecordType program b
  base_is q b e = by (base_type (map_of u q)) e
    where
      by : (o : Option TypeRef) → record_if (map_of u) o ≡ Some b → IsRecordType program b
      by None e = absurd cc
      by (Some t) e = let r = shapes.record_form (map_of u) program s.formed t b e in shapes.record_type (map_of u) program s.formed b r.r r.is

  super_is : (q b o : QName) (x : List ℕ) (m : Method) → base_record (map_of u) q ≡ Some b → member (map_of u) b x ≡ Some (AMethod o m) → SuperIs program Has unit held result (map_of u) b o m × Sub (record_in program q) (record_in program b)
  super_is q b o x m e f =
      let k = method_is (map_of u) program s.formed s.steady Has unit held result b o x m f in
      let i = base_is q b e in
      let r = s.redefined o (record { owner = o; name = m.name }) m.receiver k.0.name k.0.p k.0.type_is k.0.near k.0.found k.0.receives b i k.1 in (
        record {
          name = r.name;
          p = r.procedure;
          base_is = i;
          near = r.near;
          found = r.found;
          t = r.t;
          type_is = sub_record (record_in program b) (record_in program r.t) (b ∷ i.0, i.1) r.above;
          receives = r.receives;
          above = r.above;
          result_is = r.result ∙ k.0.result_is;
          parameters = r.parameters m.signature.params k.0.parameters;
          signature = k.0.signature;
        },
        (members.based (map_of u) program s.formed q b e).sub,
      )

  pub scoped_is : IsScoped program Has unit held result u
  scoped_is = record {
    forms = forms_are (map_of u) program s.formed s.steady Has unit held result;
    variables = s.variables;
    constants = s.constants;
    procedures = s.procedures;
    forwards = s.forwards;
    shown_variables = variable_shown;
    shown_constants = s.shown_constants;
    shown_procedures = procedure_shown;
    types = s.types;
    guards = s.guards;
    result_is = s.result_is;
    result_plain = s.result_plain;
    imports = s.imports;
    methods = method_is (map_of u) program s.formed s.steady Has unit held result;
    receivers = s.receivers;
    names = λ q o x m e. (members.member_is (map_of u) program s.formed 201 q x (AMethod o m) e).1.1.0;
    kinds = s.kinds;
    supers = super_is;
    outside = s.outside;
  }
