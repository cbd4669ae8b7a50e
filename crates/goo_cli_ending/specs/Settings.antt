-- What is told of an option that is missing, or of one whose value is wrong.
use Rattle.std.specs.Prelude.{ℕ, List, codes}
use Rattle.goo_cli.specs.declared.setting.Setting.{Setting}
use Rattle.goo_cli.specs.declared.setting.Setting.TheVariants as setting

abbrev pub missing_text : Setting → List ℕ
missing_text setting.File = codes "goo: --db is missing: the file of the registry"
missing_text setting.Code = codes "goo: --code is missing: a number of 1 to 99"
missing_text setting.Today = codes "goo: --today is missing: a day as 2025-03-01"
missing_text setting.NextSerial = codes "goo: --next-serial is missing: a number of 1 to 999999999999"
missing_text setting.Account = codes "goo: the account is missing: a number of 1 to 999999999"
missing_text setting.Port = codes "goo: --port is missing: a number of 1 to 65535"
missing_text setting.Count = codes "goo: --count is missing: a number of 0 to 1000000000"

abbrev pub wrong_text : Setting → List ℕ
wrong_text setting.File = codes "goo: --db is the file of the registry"
wrong_text setting.Code = codes "goo: --code is a number of 1 to 99"
wrong_text setting.Today = codes "goo: --today is a day as 2025-03-01, of 1900-01-01 to 2099-12-31"
wrong_text setting.NextSerial = codes "goo: --next-serial is a number of 1 to 999999999999"
wrong_text setting.Account = codes "goo: the account is a number of 1 to 999999999"
wrong_text setting.Port = codes "goo: --port is a number of 1 to 65535"
wrong_text setting.Count = codes "goo: --count is a number of 0 to 1000000000"
