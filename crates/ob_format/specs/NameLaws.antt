-- The formats of names are exact.
use Rattle.std.specs.Prelude.{IsTrue, refl}
use Rattle.ob_format.specs.Format.{IsExact}
use Rattle.ob_format.specs.Exact.{text16_exact, such_that_exact, made_exact, pair_exact}
use Rattle.ob_format.specs.Names.{is_identifier, is_object, name, object_name, qname}

pub name_exact : IsExact name
unfolding name
name_exact = such_that_exact is_identifier (λ n. IsTrue (is_identifier n)) (λ n. ((λ e. e), (λ e. e))) text16_exact

pub object_name_exact : IsExact object_name
unfolding object_name
object_name_exact = such_that_exact is_object (λ n. IsTrue (is_object n)) (λ n. ((λ e. e), (λ e. e))) text16_exact

pub qname_exact : IsExact qname
unfolding qname
qname_exact = made_exact (λ p. record { «module» = p.0; object = p.1 }) (λ q. (q.module, q.object)) (pair_exact name_exact object_name_exact) (λ _. refl) (λ _. refl)
