-- Places of variables, and what is looked up beside them, are told alike.
use Rattle.std.proofs.Common.{◌≡◌, ℕ, ◌+◌, List, [], ◌∷◌, Bool, true, false, Option, Some, None, refl, ap, ◌∙◌}
use Rattle.std.specs.Prelude.{bytes_eq, if◌then◌else◌}
use Rattle.std.specs.List.{AllByRecursion}
use Rattle.ob_tree.specs.declared.names.QName.{QName}
use Rattle.ob_tree.specs.declared.pos.Pos.{Pos}
use Rattle.ob_types.specs.declared.types.TypeRef.{TypeRef}
use Rattle.ob_types.specs.declared.typed.Passing.{Passing}
use Rattle.ob_types.specs.declared.typed.Passing.TheVariants as passing
use Rattle.ob_types.specs.declared.typed.Variable.{Variable}
use Rattle.ob_types.specs.declared.typed.Variable.TheVariants as variable
use Rattle.ob_types.specs.declared.typed.Guarded.{Guarded}
use Rattle.ob_types.specs.declared.typed.Guarded.TheVariants as guarded
use Rattle.ob_types.specs.declared.typed.Callee.{Callee}
use Rattle.ob_types.specs.declared.typed.Callee.TheVariants as callee
use Rattle.ob_types.specs.declared.desc.Receiver.TheVariants as receiver
use Rattle.ob_types.specs.declared.typed.TypedParameter.{TypedParameter}
use Rattle.ob_types.specs.declared.typed.TypedVariable.{TypedVariable}
use Rattle.ob_types.specs.TypedSyntax.{Actuals, Module}
use Rattle.ob_instr.specs.declared.opcode.Opcode.TheVariants as op
use Rattle.ob_layout.specs.Lists.{sum_of}
use Rattle.ob_scheme.specs.declared.want.Want.{Want}
use Rattle.ob_scheme.specs.declared.want.Want.TheVariants as want
use Rattle.ob_scheme.specs.Lines.{OtherVariable, plain, placed, placed_two, count}
use Rattle.ob_scheme.specs.Context.{Context, before, words, is_own, variable_place, local_slot, all_slots, local_words, parameter_slot, named_operand, type_operand}
use Rattle.ob_scheme.specs.Expressions.{from_place, from_pointer, from_guard, index_line, parameter_code, variable_code, call_line, measured_behind, length_operand, words_behind_receiver}
use Rattle.law_local_files.specs.Agreeing.{Map, On, Agree}
use Rattle.law_local_files.specs.Read.{CalleeRead}
use Rattle.law_local_files.proofs.Joined.{cons}
use Rattle.law_local_files.proofs.Told.{words_told, own_name_told, elements_told, method_number_told}
use Rattle.law_lists.proofs.Lists.{all_from}

-- what the scheme looks up with a map
abbrev pub with_map : Map → Module → List TypedParameter → List TypedVariable → Context
with_map map m ps vs = record { types = map; unit = m; parameters = ps; locals = vs }

pub before_told : {A : Type 0} (name : A → List ℕ) (f g : A → ℕ) (xs : List A) (x : List ℕ) → AllByRecursion (λ a. f a ≡ g a) xs → before name f xs x ≡ before name g xs x
before_told name f g [] x all = refl
before_told name f g (a ∷ xs) x all = go (bytes_eq x (name a)) (before_told name f g xs x all.1)
  where
    go : (b : Bool) → before name f xs x ≡ before name g xs x → (if b then 0 else f a + before name f xs x) ≡ (if b then 0 else g a + before name g xs x)
    go true e = refl
    go false e = ap (λ k. k + before name f xs x) all.0 ∙ ap (λ k. g a + k) e

pub sum_told : {A : Type 0} (f g : A → ℕ) (xs : List A) → AllByRecursion (λ a. f a ≡ g a) xs → sum_of f xs ≡ sum_of g xs
sum_told f g [] all = refl
sum_told f g (a ∷ xs) all = ap (λ k. k + sum_of f xs) all.0 ∙ ap (λ k. g a + k) (sum_told f g xs all.1)

module _ (map other : Map) (m : Module) (Shapes Layouts : QName → Type 0) (agree : Agree map other m.name Shapes Layouts) (globals : AllByRecursion (λ v. On Layouts v.of) m.variables) (ps : List TypedParameter) (vs : List TypedVariable) (locals : AllByRecursion (λ v. On Layouts v.of) vs) where
  abbrev here : Context
  here = with_map map m ps vs

  abbrev there : Context
  there = with_map other m ps vs

  pub sizes_told : (t : TypeRef) → On Layouts t → words (with_map map m ps vs) t ≡ words (with_map other m ps vs) t
  sizes_told t on = words_told map other m.name Shapes Layouts agree t on

  pub variable_place_told : (x : List ℕ) → variable_place (with_map map m ps vs) x ≡ variable_place (with_map other m ps vs) x
  variable_place_told x = before_told (λ v. v.name) (λ v. words here v.of) (λ v. words there v.of) m.variables x (all_from (λ v. On Layouts v.of) (λ v. words here v.of ≡ words there v.of) (λ v on. sizes_told v.of on) m.variables globals)

  sizes_locals : AllByRecursion (λ v. words here v.of ≡ words there v.of) vs
  sizes_locals = all_from (λ v. On Layouts v.of) (λ v. words here v.of ≡ words there v.of) (λ v on. sizes_told v.of on) vs locals

  pub local_slot_told : (x : List ℕ) → local_slot (with_map map m ps vs) x ≡ local_slot (with_map other m ps vs) x
  local_slot_told x = ap (λ k. all_slots here + k) (before_told (λ v. v.name) (λ v. words here v.of) (λ v. words there v.of) vs x sizes_locals)

  pub local_words_told : local_words (with_map map m ps vs) ≡ local_words (with_map other m ps vs)
  local_words_told = sum_told (λ v. words here v.of) (λ v. words there v.of) vs sizes_locals

  pub from_place_told : (w : Want) (t : TypeRef) → On Shapes t → from_place (with_map map m ps vs) w t ≡ from_place (with_map other m ps vs) w t
  from_place_told want.Value t on = refl
  from_place_told want.Place t on = refl
  from_place_told (want.Room n) t on = refl
  from_place_told want.PlaceAndTag t on = ap (λ o. plain op.Tag (named_operand here o) ∷ []) (own_name_told map other m.name Shapes Layouts agree t on)
  from_place_told want.Tag t on = refl
  from_place_told want.PlaceAndLength t on = ap (λ o. plain op.Int (length_operand o) ∷ []) (elements_told map other m.name Shapes Layouts agree t on)
  from_place_told want.Length t on = refl

  pub from_pointer_told : (w : Want) (t : TypeRef) (at : Pos) → On Shapes t → from_pointer (with_map map m ps vs) w t at ≡ from_pointer (with_map other m ps vs) w t at
  from_pointer_told want.Value t at on = refl
  from_pointer_told want.Place t at on = refl
  from_pointer_told (want.Room n) t at on = refl
  from_pointer_told want.PlaceAndTag t at on = refl
  from_pointer_told want.Tag t at on = refl
  from_pointer_told want.PlaceAndLength t at on = ap (λ o. measured_behind o at) (elements_told map other m.name Shapes Layouts agree t on)
  from_pointer_told want.Length t at on = refl

  pub from_guard_told : (g : Guarded) (w : Want) (t : TypeRef) → On Shapes t → from_guard (with_map map m ps vs) g w t ≡ from_guard (with_map other m ps vs) g w t
  from_guard_told guarded.Pointer w t on = from_place_told w t on
  from_guard_told guarded.Record w t on = refl

  pub index_line_told : (n : Option ℕ) (t : TypeRef) (at : Pos) → On Layouts t → index_line (with_map map m ps vs) n t at ≡ index_line (with_map other m ps vs) n t at
  index_line_told None t at on = ap (λ k. placed op.IndexO (count k) at) (sizes_told t on)
  index_line_told (Some n) t at on = ap (λ k. placed_two op.Index (count n) (count k) at) (sizes_told t on)

  parameter_told : (how : Passing) (k : ℕ) (w : Want) (t : TypeRef) → On Shapes t → parameter_code here how k w t ≡ parameter_code there how k w t
  parameter_told passing.Scalar k w t on = cons refl (from_place_told w t on)
  parameter_told passing.Structure k w t on = cons refl (cons refl (from_place_told w t on))
  parameter_told passing.OpenArray k w t on = refl
  parameter_told passing.Variable k w t on = cons refl (cons refl (from_place_told w t on))
  parameter_told passing.VariableRecord k w t on = refl
  parameter_told passing.VariableOpenArray k w t on = refl

  pub variable_told : (w : Want) (v : Variable) (t : TypeRef) → On Shapes t → variable_code (with_map map m ps vs) w v t ≡ variable_code (with_map other m ps vs) w v t
  variable_told w (variable.Module n x) t on = cons (ap (λ k. if is_own here n then plain op.Global (count k) else plain op.ExtVar (OtherVariable n x)) (variable_place_told x)) (from_place_told w t on)
  variable_told w (variable.Local x) t on = cons (ap (λ k. plain op.Local (count k)) (local_slot_told x)) (from_place_told w t on)
  variable_told w (variable.Parameter how x) t on = parameter_told how (parameter_slot here x) w t on

  pub call_told : (c : Callee) (es : Actuals) (at : Pos) → CalleeRead Shapes Layouts c → call_line (with_map map m ps vs) c es at ≡ call_line (with_map other m ps vs) c es at
  call_told (callee.Declared q) es at on = refl
  call_told (callee.Bound f receiver.Pointer) es at on = ap (λ k. placed_two op.CallP (count k) (count (words_behind_receiver es)) at) (method_number_told map other m.name Shapes Layouts agree f.owner f.name on)
  call_told (callee.Bound f receiver.Record) es at on = ap (λ k. placed_two op.CallR (count k) (count (words_behind_receiver es)) at) (method_number_told map other m.name Shapes Layouts agree f.owner f.name on)
  call_told (callee.Super base f r) es at on = ap (λ k. placed_two op.CallS (type_operand here base) (count k) at) (method_number_told map other m.name Shapes Layouts agree f.owner f.name on)
  call_told (callee.Out p) es at on = refl
