-- How many parts a file has at most, by its bytes.
use Rattle.std.proofs.Common.{◌≡◌, ℕ, ◌+◌, ◌*◌, ◌≤◌, true, List, [], ◌∷◌, ◌++◌, length, None, refl, arith, length-append}
use Rattle.std.specs.List.{AllByRecursion, flat_map}
use Rattle.std.specs.Int.{w16, w32, to_be_bytes}
use Rattle.ob_format.specs.Format.{word32, text16, list_of}
use Rattle.ob_format.specs.Names.{name, object_name, is_object}
use Rattle.ob_instr.specs.Spelling.{instr}
use Rattle.ob_instr.specs.Parts.{procedure, position}
use Rattle.ob_obj.specs.declared.parts.Base.{Base}
use Rattle.ob_obj.specs.declared.parts.Base.TheVariants as base
use Rattle.ob_obj.specs.declared.parts.RecordType.{RecordType}
use Rattle.ob_obj.specs.declared.parts.Variable.{Variable}
use Rattle.ob_obj.specs.declared.file.ObjFile.{ObjFile}
use Rattle.ob_obj.specs.Grammar.{string, variable, base_form, definition, record_parts, record_type, command, head, globals, links, body, magic, file}
use Rattle.law_spelling.proofs.Lists.{flat_many}

some_name : (t : List ℕ) → is_object t ≡ true → 1 ≤ length t
some_name [] e = absurd cc
some_name (x ∷ t) e = omega arith

base_some : (b : Base) → 1 ≤ length (base_form.spell b)
unfolding base_form
base_some base.None = omega arith
base_some (base.Own n) = let e = length-append (1 ∷ []) (word32.spell n) in omega (arith, e)
base_some (base.Link n) = let e = length-append (2 ∷ []) (word32.spell n) in omega (arith, e)

-- a record type comes to sixteen bytes or more
type_long : (t : RecordType) → is_object t.name ≡ true → 16 ≤ length (record_type.spell t)
unfolding record_type record_parts object_name text16 word32 list_of
type_long t h =
    let n = to_be_bytes w16 (length t.name) in
    let b = base_form.spell t.base in
    let w = to_be_bytes w32 t.words in
    let k = to_be_bytes w32 t.count in
    let d = to_be_bytes w32 (length t.definitions) in
    let ds = flat_map definition.spell t.definitions in
    let e0 = length-append (n ++ t.name) (b ++ (w ++ (k ++ (d ++ ds)))) in
    let e1 = length-append n t.name in
    let e2 = length-append b (w ++ (k ++ (d ++ ds))) in
    let e3 = length-append w (k ++ (d ++ ds)) in
    let e4 = length-append k (d ++ ds) in
    let e5 = length-append d ds in
    let s = some_name t.name h in
    let o = base_some t.base in
    let l2 : length n ≡ 2 = refl in
    let lw : length w ≡ 4 = refl in
    let lk : length k ≡ 4 = refl in
    let ld : length d ≡ 4 = refl in
    omega (arith, e0, e1, e2, e3, e4, e5, s, o, l2, lw, lk, ld)

pub types_long : (ts : List RecordType) → AllByRecursion (λ t. is_object t.name ≡ true) ts → 16 * length ts ≤ length (flat_map record_type.spell ts)
types_long [] h = omega arith
types_long (t ∷ ts) h =
    let e = length-append (record_type.spell t) (flat_map record_type.spell ts) in
    let a = type_long t h.0 in
    let b = types_long ts h.1 in
    omega (arith, e, a, b)

some_variable : (v : Variable) → 1 ≤ length (variable.spell v)
unfolding variable name text16 word32
some_variable v =
    let a = to_be_bytes w16 (length v.name) in
    let b = to_be_bytes w32 v.place in
    let e = length-append (a ++ v.name) b in
    let lb : length b ≡ 4 = refl in
    omega (arith, e, lb)

pub many_variables : (vs : List Variable) → length vs ≤ length (flat_map variable.spell vs)
many_variables vs = flat_many variable.spell some_variable vs

-- ---- the bytes of the file hold those of each part

module _ (f : ObjFile) where
  holds_body : length (body.spell f.body) ≤ length (file.spell f)
  unfolding file
  holds_body =
      let a = head.spell f.head in
      let b = globals.spell f.globals in
      let c = links.spell f.links in
      let d = body.spell f.body in
      let x = length-append magic (a ++ (b ++ (c ++ d))) in
      let y = length-append a (b ++ (c ++ d)) in
      let z = length-append b (c ++ d) in
      let w = length-append c d in
      omega (arith, x, y, z, w)

  holds_globals : length (globals.spell f.globals) ≤ length (file.spell f)
  unfolding file
  holds_globals =
      let a = head.spell f.head in
      let b = globals.spell f.globals in
      let c = links.spell f.links in
      let d = body.spell f.body in
      let x = length-append magic (a ++ (b ++ (c ++ d))) in
      let y = length-append a (b ++ (c ++ d)) in
      let z = length-append b (c ++ d) in
      omega (arith, x, y, z)

  pub holds_types : length (flat_map record_type.spell f.body.types) ≤ length (file.spell f)
  unfolding body list_of
  holds_types =
      let ts = f.body.types in
      let n = to_be_bytes w32 (length ts) in
      let a = flat_map record_type.spell ts in
      let r = (list_of procedure).spell f.body.procedures ++ ((list_of command).spell f.body.commands ++ ((list_of instr).spell f.body.code ++ (list_of position).spell f.body.positions)) in
      let x = length-append (n ++ a) r in
      let y = length-append n a in
      let h = holds_body in
      omega (arith, x, y, h)

  pub holds_variables : length (flat_map variable.spell f.globals.variables) ≤ length (file.spell f)
  unfolding globals list_of word32
  holds_variables =
      let vs = f.globals.variables in
      let a = to_be_bytes w32 f.globals.variable_words in
      let b = (list_of string).spell f.globals.strings in
      let n = to_be_bytes w32 (length vs) in
      let d = flat_map variable.spell vs in
      let x = length-append a (b ++ (n ++ d)) in
      let y = length-append b (n ++ d) in
      let z = length-append n d in
      let h = holds_globals in
      omega (arith, x, y, z, h)
