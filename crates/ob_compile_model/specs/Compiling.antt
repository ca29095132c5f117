-- What the compile of a source gives, or why it is refused: once for uses that keep texts and for uses that keep prints.
use Rattle.std.specs.Prelude.{ℕ, List, [], ◌∷◌, Bool, true, false, nat_le, length, map as each, Option, Some, None, Result, Ok, Err}
use Rattle.std.specs.List.{flat_map}
use Rattle.ob_tree.specs.declared.names.QName.{QName}
use Rattle.ob_tree.specs.declared.print.Print.{Print}
use Rattle.ob_tree.specs.declared.which.Which.{Which}
use Rattle.ob_tree.specs.declared.which.Which.TheVariants as which
use Rattle.ob_tree.specs.declared.ident.Ident.{Ident}
use Rattle.ob_tree.specs.declared.ident.Import.{Import}
use Rattle.ob_tree.specs.declared.decl.Module.{Module as Tree}
use Rattle.ob_types.specs.declared.face.Aspect.{Aspect}
use Rattle.ob_types.specs.declared.face.Aspect.TheVariants as aspect
use Rattle.ob_types.specs.declared.face.Object.{Object}
use Rattle.ob_types.specs.declared.face.Interface.{Interface}
use Rattle.ob_types.specs.declared.typed.TypedModule.{TypedModule}
use Rattle.ob_types.specs.TypedSyntax.{Module}
use Rattle.ob_types.specs.TypedView.{module_view}
use Rattle.ob_obj.specs.declared.parts.Export.{Export}
use Rattle.ob_obj.specs.declared.file.ObjFile.{ObjFile}
use Rattle.ob_obj.specs.Grammar.{file}
use Rattle.ob_sym.specs.Grammar.{face}
use Rattle.ob_rules.specs.declared.broken.Broken.{Broken as BrokenRule}
use Rattle.ob_rules.specs.Declarations.{first_break, checked, deep_of, declaration, module_part}
use Rattle.ob_layout.specs.LaidOut.{laid_out, viewed}
use Rattle.ob_layout.specs.Room.{first_limit}
use Rattle.ob_env.specs.Faces.{Face, described, text_in, print_in, printed, interface_of}
use Rattle.ob_env.specs.Stale.{StaleUse, prints_agree}
use Rattle.ob_env.specs.Answer.{Standing, Stands, Stale, Unfit}
use Rattle.ob_env.specs.Shown.{shown}
use Rattle.ob_env_walk.specs.Walk.{Entry, Walked, file_limit}
use Rattle.ob_env_walk.specs.Answer.{Reached, Stopped, Whole, env_answer}
use Rattle.ob_uses.specs.Made.{face_of_laid}
use Rattle.ob_scheme.specs.Needs.{has_few_operands}
use Rattle.ob_scheme.specs.Object.{object_file}
use Rattle.ob_parse_grammar.specs.TextReading.{NoModule, reading}
use Rattle.std.specs.Prelude.{bytes_eq}

-- How uses are kept: whether two that are kept agree, what an object has to keep, and how an interface is written.
pub record Keeping (K : Type 0) : Type 0 where
  pub same : K → K → Bool
  pub keeps : List (Face K) → QName → Aspect → Option K
  pub written : Face K → Face Print

abbrev pub texts : Keeping (List ℕ)
texts = record { same = bytes_eq; keeps = text_in; written = printed }

abbrev pub prints : Keeping Print
prints = record { same = prints_agree; keeps = print_in; written = λ f. f }

pub data Refusal (K : Type 0) : Type 0 where
  NoSource : Refusal K
  Long : Refusal K
  Unread : (fault : NoModule) → Refusal K
  Broken : (rule : BrokenRule) → Refusal K
  -- the walk ended early
  Walk : (walked : Walked K) → Refusal K
  Unmet : (unmet : StaleUse K) → Refusal K
  NoFit : (object : QName) → Refusal K
  Limit : (which : Which) → Refusal K

-- A module that was compiled: against these interfaces it is this checked module, with its own records laid out, and it shows this.
pub record Compiled (K : Type 0) : Type 0 where
  pub tree : Module
  pub against : List (Face K)
  pub shows : Face K

-- ---- the two files

-- an aspect of an object that has a print
abbrev pub layout_export : List ℕ → Option Print → List Export
layout_export x None = []
layout_export x (Some p) = record { name = x; aspect = aspect.Layout; print = p } ∷ []

abbrev pub object_exports : Object → List Export
object_exports o = record { name = o.name; aspect = aspect.Shape; print = o.shape } ∷ layout_export o.name o.layout

abbrev pub exports_of : Interface → List Export
exports_of i = flat_map object_exports i.objects

abbrev pub interface_by : {K : Type 0} → Keeping K → Compiled K → Interface
interface_by keeping c = interface_of (keeping.written c.shows)

abbrev pub object_with : {K : Type 0} → Compiled K → Interface → ObjFile
object_with c i = object_file (viewed (described c.against) c.tree) c.tree (exports_of i) i.uses

abbrev pub object_by : {K : Type 0} → Keeping K → Compiled K → ObjFile
object_by keeping c = object_with c (interface_by keeping c)

-- the bytes of its two files
abbrev pub object_bytes : {K : Type 0} → Keeping K → Compiled K → List ℕ
object_bytes keeping c = file.spell (object_by keeping c)

abbrev pub symbol_bytes : {K : Type 0} → Keeping K → Compiled K → List ℕ
symbol_bytes keeping c = face.spell (interface_by keeping c)

-- ---- limits, behind the rules

abbrev pub or_first : {A : Type 0} → Option A → Option A → Option A
or_first (Some x) more = Some x
or_first None more = more

abbrev pub exceeded : Bool → Which → Option Which
exceeded true w = None
exceeded false w = Some w

-- the most instructions of a module
abbrev pub most_code : ℕ
most_code = 262144

-- files, the object file first
abbrev pub limit_of_files : List ℕ → List ℕ → Option Which
limit_of_files obj sym = or_first (exceeded (nat_le (length obj) file_limit) which.File) (exceeded (nat_le (length sym) file_limit) which.File)

-- the code, and then the files
abbrev pub limit_of_code : {K : Type 0} → Keeping K → Compiled K → Option Which
limit_of_code keeping c = or_first (exceeded (nat_le (length (object_by keeping c).body.code) most_code) which.Code) (limit_of_files (object_bytes keeping c) (symbol_bytes keeping c))

abbrev pub limit_of_operands : {K : Type 0} → Keeping K → Compiled K → Option Which
limit_of_operands keeping c = or_first (exceeded (has_few_operands (viewed (described c.against) c.tree) c.tree) which.Operands) (limit_of_code keeping c)

-- sizes, then operands, then code, then files
abbrev pub exceeds : {K : Type 0} → Keeping K → Compiled K → Option Which
exceeds keeping c = or_first (first_limit (viewed (described c.against) c.tree) c.tree (length c.shows.objects)) (limit_of_operands keeping c)

abbrev pub within : {K : Type 0} → Compiled K → Option Which → Result (Compiled K) (Refusal K)
within c (Some w) = Err (Limit w)
within c None = Ok c

-- ---- the rules

abbrev pub made : {K : Type 0} → Keeping K → List (Face K) → Module → Compiled K
made keeping faces m = record { tree = m; against = faces; shows = face_of_laid (keeping.keeps faces) faces m }

-- a module that breaks no rule has its checked module
abbrev pub of_checked : {K : Type 0} → Keeping K → List (Face K) → Option TypedModule → Result (Compiled K) (Refusal K)
of_checked keeping faces None = Err NoSource
of_checked keeping faces (Some m) = Ok (made keeping faces (laid_out (described faces) (module_view m)))

abbrev pub of_break : {K : Type 0} → Keeping K → List (Face K) → Option TypedModule → Option BrokenRule → Result (Compiled K) (Refusal K)
of_break keeping faces found (Some b) = Err (Broken b)
of_break keeping faces found None = of_checked keeping faces found

-- WHAT A TREE IS against these interfaces by the rules alone, whatever limits it exceeds
abbrev pub by_rules : {K : Type 0} → Keeping K → List (Face K) → Tree → Result (Compiled K) (Refusal K)
by_rules keeping faces tree = of_break keeping faces (checked (shown faces) tree) (first_break (shown faces) tree)

abbrev pub and_limits : {K : Type 0} → Keeping K → Result (Compiled K) (Refusal K) → Result (Compiled K) (Refusal K)
and_limits keeping (Ok c) = within c (exceeds keeping c)
and_limits keeping (Err r) = Err r

abbrev pub is_deep : {K : Type 0} → List (Face K) → Tree → Bool
is_deep faces tree = deep_of (shown faces) tree.name (each declaration tree.decls) (module_part (shown faces) tree)

abbrev pub unless_deep : {K : Type 0} → Bool → Result (Compiled K) (Refusal K) → Result (Compiled K) (Refusal K)
unless_deep true r = Err (Limit which.Depth)
unless_deep false r = r

-- the limit depth goes before the rules, the others behind them
abbrev pub of_faces : {K : Type 0} → Keeping K → List (Face K) → Tree → Result (Compiled K) (Refusal K)
of_faces keeping faces tree = unless_deep (is_deep faces tree) (and_limits keeping (by_rules keeping faces tree))

-- ---- the interfaces

abbrev pub of_standing : {K : Type 0} → Keeping K → Tree → Standing K → Result (Compiled K) (Refusal K)
of_standing keeping tree (Stands faces) = of_faces keeping faces tree
of_standing keeping tree (Stale u) = Err (Unmet u)
of_standing keeping tree (Unfit q) = Err (NoFit q)

abbrev pub of_reached : {K : Type 0} → Keeping K → Tree → Reached K → Result (Compiled K) (Refusal K)
of_reached keeping tree (Stopped w) = Err (Walk w)
of_reached keeping tree (Whole s) = of_standing keeping tree s

-- ---- the source

abbrev pub target_of : Option Ident → List ℕ → List ℕ
target_of None name = name
target_of (Some i) name = i.name

-- the module that an import names
abbrev pub imported : Import → List ℕ
imported i = target_of i.target i.ident.name

-- the most items of a list of imports
abbrev pub most_imports : ℕ
most_imports = 64

abbrev pub of_few : {K : Type 0} → Bool → Result (Compiled K) (Refusal K) → Result (Compiled K) (Refusal K)
of_few true r = r
of_few false r = Err (Limit which.Imports)

abbrev pub of_tree : {K : Type 0} → Keeping K → (List ℕ → Entry K) → Tree → Result (Compiled K) (Refusal K)
of_tree keeping entry tree =
    of_few (nat_le (length tree.imports) most_imports)
    (of_reached keeping tree (env_answer keeping.same keeping.keeps entry tree.name.name (each imported tree.imports)))

abbrev pub of_reading : {K : Type 0} → Keeping K → (List ℕ → Entry K) → Result Tree NoModule → Result (Compiled K) (Refusal K)
of_reading keeping entry (Ok tree) = of_tree keeping entry tree
of_reading keeping entry (Err f) = Err (Unread f)

-- the most bytes of a source
abbrev pub most_source : ℕ
most_source = 1048576

abbrev pub of_short : {K : Type 0} → Bool → Result (Compiled K) (Refusal K) → Result (Compiled K) (Refusal K)
of_short true r = r
of_short false r = Err Long

-- WHAT A SOURCE GIVES, where names have these entries
unfoldable pub compiled : {K : Type 0} → Keeping K → (List ℕ → Entry K) → Option (List ℕ) → Result (Compiled K) (Refusal K)
compiled keeping entry None = Err NoSource
compiled keeping entry (Some source) = of_short (nat_le (length source) most_source) (of_reading keeping entry (reading source))
