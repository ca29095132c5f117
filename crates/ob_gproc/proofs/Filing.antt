-- The code of a module with all its links.
use Rattle.std.proofs.Common.{◌≡◌, ℕ, List, Option, refl, ap, ◌∙◌}
use Rattle.ob_tree.specs.declared.names.QName.{QName}
use Rattle.ob_types.specs.declared.desc.Desc.{Desc}
use Rattle.ob_types.specs.TypedSyntax.{Module}
use Rattle.ob_types.specs.declared.face.Use.{Use}
use Rattle.ob_instr.specs.declared.procedure.Procedure.{Procedure as Row}
use Rattle.ob_obj.specs.declared.parts.Export.{Export}
use Rattle.ob_obj.specs.declared.parts.Variable.{Variable}
use Rattle.ob_obj.specs.declared.parts.Command.{Command}
use Rattle.ob_obj.specs.declared.parts.RecordType.{RecordType}
use Rattle.ob_gexpr_code.specs.declared.code.CodeParts.{CodeParts}
use Rattle.ob_gexpr_code.specs.Parts.{parts_of}
use Rattle.ob_gproc.specs.Filed.{file_with}
use Rattle.ob_scheme.specs.Coded.{Coded, nothing_coded, appended}
use Rattle.ob_scheme.specs.Procedures.{module_code, module_rows}
use Rattle.ob_scheme.specs.Object.{own_words, type_links, with_bases, variables, commands, records_in, object_file}
use Rattle.ob_gproc.specs.Named.{with_types}
use Rattle.ob_gproc.specs.Whole.{module_coded}
use Rattle.ob_gproc.proofs.Exporting.{whole_code}

pub coded_is : (types : QName → Option Desc) (m : Module) (words : ℕ) (c0 c1 c2 : Coded) → words ≡ own_words types m → c0 ≡ nothing_coded words → c1 ≡ appended c0 (module_code types m) → c2 ≡ with_types c1 (with_bases types m c1.named.types m.types) → c2 ≡ module_coded types m
unfolding module_coded
coded_is types m words c0 c1 c2 w h0 h1 h2 =
    let k = whole_code c1 (own_words types m) (module_code types m) (h1 ∙ ap (λ x. appended x (module_code types m)) (h0 ∙ ap nothing_coded w)) in
    h2 ∙ ap (λ c. with_types c (with_bases types m c.named.types m.types)) k

pub coded_types : (types : QName → Option Desc) (m : Module) → (module_coded types m).named.types ≡ type_links types m
unfolding module_coded
coded_types types m = refl

pub filed : (types : QName → Option Desc) (m : Module) (exports : List Export) (uses : List Use) (imports : List (List ℕ)) (p : CodeParts) (words : ℕ) (vs : List Variable) (records : List RecordType) (rows : List Row) (cs : List Command)
    → imports ≡ m.imports → p ≡ parts_of (module_coded types m) → words ≡ own_words types m → vs ≡ variables types m → records ≡ records_in types m (type_links types m) m.types → rows ≡ module_rows types m → cs ≡ commands types m
    → file_with (record { «module» = m.name; imports = imports; exports = exports; uses = uses }) p words vs records rows cs ≡ object_file types m exports uses
unfolding module_coded
filed types m exports uses imports p words vs records rows cs i k w v r q d =
    ap (λ x. file_with (record { «module» = m.name; imports = x; exports = exports; uses = uses }) p words vs records rows cs) i
    ∙ ap (λ x. file_with (record { «module» = m.name; imports = m.imports; exports = exports; uses = uses }) x words vs records rows cs) k
    ∙ ap (λ x. file_with (record { «module» = m.name; imports = m.imports; exports = exports; uses = uses }) (parts_of (module_coded types m)) x vs records rows cs) w
    ∙ ap (λ x. file_with (record { «module» = m.name; imports = m.imports; exports = exports; uses = uses }) (parts_of (module_coded types m)) (own_words types m) x records rows cs) v
    ∙ ap (λ x. file_with (record { «module» = m.name; imports = m.imports; exports = exports; uses = uses }) (parts_of (module_coded types m)) (own_words types m) (variables types m) x rows cs) r
    ∙ ap (λ x. file_with (record { «module» = m.name; imports = m.imports; exports = exports; uses = uses }) (parts_of (module_coded types m)) (own_words types m) (variables types m) (records_in types m (type_links types m) m.types) x cs) q
    ∙ ap (file_with (record { «module» = m.name; imports = m.imports; exports = exports; uses = uses }) (parts_of (module_coded types m)) (own_words types m) (variables types m) (records_in types m (type_links types m) m.types) (module_rows types m)) d
