use Rattle.keep_normal.proofs.NormalFiles.{ranges-normal, normal-normal}
use Rattle.keep_normal.proofs.laws.normal_forms_keep_files.Goals as goal

pub returns-clause-files : goal.returns-clause-files
returns-clause-files c = ranges-normal

pub returns-clause-own_normal_form : goal.returns-clause-own_normal_form
returns-clause-own_normal_form c = normal-normal
