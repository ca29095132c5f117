-- A name behind a variable, through a pointer or not.
use Rattle.std.proofs.Common.{◌≡◌, refl, sym, ap, ◌∙◌, Bool, true, false, Option, Some, None}
use Rattle.ob_tree.specs.declared.pos.Pos.{Pos}
use Rattle.ob_tree.specs.declared.ident.Ident.{Ident}
use Rattle.ob_types.specs.declared.types.TypeRef.{TypeRef}
use Rattle.ob_rules.specs.declared.values.Place.{Place}
use Rattle.ob_rules.specs.declared.meant.Meant.{Meant}
use Rattle.ob_rules.specs.Judged.{Judged, silent, ◌▷◌}
use Rattle.ob_rules.specs.Shapes.{pointed, record_of}
use Rattle.ob_rules.specs.Names.{Around, map_of}
use Rattle.ob_rules.specs.Phrases.{dereferenced, record_receiver}
use Rattle.ob_rules.specs.Designators.{select, select_through, select_of, is_there, if_so_held}

there : (u : Around) (start at : Pos) (x : Ident) (p : Place) (last : Bool) (o : Option TypeRef) → is_there (map_of u) o ≡ true
    → select_through u start at x p last o ≡ select_of u start at x p (record_receiver at p o) o last (record_of (map_of u) (record_receiver at p o).of)
there u start at x p last None h = refl
there u start at x p last (Some t) h = ap (λ b. if_so_held b (dereferenced p at t false) ▷ λ q. select_of u start at x p q (Some t) last (record_of (map_of u) q.of)) h

gone : (u : Around) (start at : Pos) (x : Ident) (p : Place) (last : Bool) (o : Option TypeRef) → is_there (map_of u) o ≡ false → select_through u start at x p last o ≡ silent
gone u start at x p last None h = cc
gone u start at x p last (Some t) h = ap (λ b. if_so_held b (dereferenced p at t false) ▷ λ q. select_of u start at x p q (Some t) last (record_of (map_of u) q.of)) h

-- where what the variable points to is there, the name is looked for in it
pub select_there : (u : Around) (start at : Pos) (x : Ident) (p : Place) (last : Bool) (o : Option TypeRef) → o ≡ pointed (map_of u) p.of → is_there (map_of u) o ≡ true
    → select u start at x p last ≡ select_of u start at x p (record_receiver at p o) o last (record_of (map_of u) (record_receiver at p o).of)
select_there u start at x p last o e h = ap (λ y. select_through u start at x p last y) (sym e) ∙ there u start at x p last o h

-- where it is not, nothing is said
pub select_gone : (u : Around) (start at : Pos) (x : Ident) (p : Place) (last : Bool) (o : Option TypeRef) → o ≡ pointed (map_of u) p.of → is_there (map_of u) o ≡ false → select u start at x p last ≡ silent
select_gone u start at x p last o e h = ap (λ y. select_through u start at x p last y) (sym e) ∙ gone u start at x p last o h
