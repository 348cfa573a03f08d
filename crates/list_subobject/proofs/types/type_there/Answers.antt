-- `list_subobject::types::type_there` meets its contract: a subobject of right form has a known type.
use Rattle.list_subobject.proofs.FormLaws.{readable-known, typed}
use Rattle.list_subobject.proofs.types.type_there.Goals as goal

pub unwrap-requires : goal.unwrap-requires
unwrap-requires c = typed c.requires.kind _ c.type_of.result c.type_of.ensures (readable-known c.requires)
