use Rattle.std.proofs.Common.{◌≡◌, sym, ap, ◌∙◌}
use Rattle.std.proofs.lemmas.Result.{on_ok_weaker}
use Rattle.ob_tree.specs.declared.pos.Pos.{Pos}
use Rattle.ob_rules.specs.Names.{map_of}
use Rattle.ob_rules.specs.declared.meant.Meant.{Meant}
use Rattle.ob_rules.specs.declared.meant.Where.TheVariants.{Elsewhere}
use Rattle.ob_rules.specs.declared.values.Place.{Place}
use Rattle.ob_rules.specs.declared.values.Valued.{Valued}
use Rattle.ob_rules.specs.Books.{book_after}
use Rattle.ob_rules.specs.Expressions as exprs
use Rattle.ob_rules.specs.Judged.{if_sound, joined, paired, ◌▷◌}
use Rattle.ob_rules.specs.Statements as spec
use Rattle.ob_rules.proofs.BookLaws.{after_joined}
use Rattle.ob_cstmt.proofs.StmtViews.{named_start}
use Rattle.ob_cstmt.proofs.assign.selected_place.Goals as goal

pub returns-clause-made : goal.returns-clause-made
returns-clause-made g c =
    let j = exprs.meant_by Elsewhere (exprs.named_of c.args.designator.now) (g.S.Surroundings.around c.args.here.now) in
    c.target_if.ensures.made
    ∙ ap (λ (p : Pos). (if_sound c.in_ok-meant.meant (λ m. spec.target p m)).node) c.pos.ensures
    ∙ ap (λ o. (if_sound o (λ m. spec.target c.args.designator.now.ident.pos m)).node) c.in_ok-meant.ensures.made
    ∙ ap (λ x. (j ▷ λ m. spec.target x.pos m).node) (sym (named_start c.args.designator.now))

pub returns-clause-noted : goal.returns-clause-noted
returns-clause-noted g c =
    let j = exprs.meant_by Elsewhere (exprs.named_of c.args.designator.now) (g.S.Surroundings.around c.args.here.now) in
    let f = λ (m : Meant). spec.target c.args.designator.now.ident.pos m in
    c.target_if.ensures.noted
    ∙ ap (λ (p : Pos). book_after c.check_designator.new.book (if_sound c.in_ok-meant.meant (λ m. spec.target p m)).notes) c.pos.ensures
    ∙ ap (λ o. book_after c.check_designator.new.book (if_sound o f).notes) c.in_ok-meant.ensures.made
    ∙ ap (λ k. book_after k (if_sound j.node f).notes) c.in_ok-meant.ensures.noted
    ∙ after_joined c.args.book.now j.notes (if_sound j.node f).notes
    ∙ ap (λ x. book_after c.args.book.now (j ▷ λ m. spec.target x.pos m).notes) (sym (named_start c.args.designator.now))
