-- What the code keeps of who asks and who answers.
use Rattle.cd_ident.specs.Identifiers as identifiers
use Rattle.cd_ident.specs.declared.ends.Ends.{Ends}

-- what the code keeps, as the identifiers name it
abbrev pub kept_ends : Ends → identifiers.Ends
kept_ends e = record { client = e.client; server = e.server; client_port = e.client_port; server_port = e.server_port }
